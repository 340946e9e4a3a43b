use Rattle.mh_lint_states.proofs.CompleteItems.{HasAtMostOne}
use Rattle.mh_lint_states.proofs.conflicts.has_two_on.Given as goal

abbrev pub invariant-loop-item : goal.invariant-loop-item
invariant-loop-item g l = HasAtMostOne l.grammar l.items l.look l.item-index l.has_one
