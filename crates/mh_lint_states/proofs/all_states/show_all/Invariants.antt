use Rattle.mh_grammar.specs.Plain.{plain_of}
use Rattle.mh_items.specs.code.ClosureBuilder.{IsClosureBuilder}
use Rattle.mh_lint_states.specs.code.ShownStates.{AreShown}
use Rattle.mh_lint_states.proofs.all_states.show_all.Given as goal

abbrev pub invariant-loop-number : goal.invariant-loop-number
invariant-loop-number g l = record {
  shown : AreShown l.grammar l.automaton l.table l.number l.shown;
  closer : IsClosureBuilder (plain_of l.grammar) l.closer;
}
