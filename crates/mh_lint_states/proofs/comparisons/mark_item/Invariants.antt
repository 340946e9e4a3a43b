use Rattle.std.proofs.Common.{length}
use Rattle.mh_lint_states.proofs.MarkedPairs.{AreLooksMarked}
use Rattle.mh_lint_states.proofs.comparisons.mark_item.Given as goal

abbrev pub invariant-looks : goal.invariant-looks
invariant-looks g l = AreLooksMarked l.grammar l.shifts l.item l.left l.fn.compared l.compared

abbrev pub decreases-looks : goal.decreases-looks
decreases-looks g l = length l.left
