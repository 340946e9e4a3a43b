use Rattle.std.proofs.Common.{◌≡◌, ◌++◌, drop}
use Rattle.mh_tabfile_form.specs.Form.{states_lines}
use Rattle.mh_tabfile_form.specs.TableContent.{raw_states}
use Rattle.mh_tabfile.specs.code.Texts.{lines_written}
use Rattle.mh_tabfile.proofs.writing.write_states.Given as goal

abbrev pub invariant-loop-state : goal.invariant-loop-state
invariant-loop-state g l =
    l.text.items ++ lines_written (states_lines l.state (raw_states l.grammar (drop l.state l.automaton.kernels) (drop l.state l.automaton.edges) (drop l.state l.table.states)))
    ≡ l.initial.text.items ++ lines_written (states_lines 0 (raw_states l.grammar l.automaton.kernels l.automaton.edges l.table.states))
