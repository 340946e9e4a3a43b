use Rattle.std.proofs.Common.{◌≡◌, ◌++◌, length}
use Rattle.mh_grammar.specs.Text.{Text}
use Rattle.mh_report.specs.Automata.{title, AreStateTexts}
use Rattle.mh_report.proofs.automata.automaton_text.Given as goal

abbrev pub invariant-loop-state : goal.invariant-loop-state
invariant-loop-state g l = (states : Text) × AreStateTexts l.grammar l.automaton l.table l.state states × (l.text.items ≡ title l.fn.mode (length l.automaton.kernels) ++ states)
