use Rattle.mh_lint_states.proofs.AutomatonLinesUnique.{automaton_lines_once}
use Rattle.mh_lint_states.proofs.laws.automaton_lines_are_unique.Goals as goal

pub returns : goal.returns
returns c = automaton_lines_once
