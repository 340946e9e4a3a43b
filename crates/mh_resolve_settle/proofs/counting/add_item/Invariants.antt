use Rattle.std.proofs.Common.{length}
use Rattle.mh_resolve_settle.proofs.AreTallied.{AreCounted}
use Rattle.mh_resolve_settle.proofs.counting.add_item.Given as goal

abbrev pub invariant-looks : goal.invariant-looks
invariant-looks g l = AreCounted l.grammar l.shifts l.item l.left l.fn.tallies l.tallies

abbrev pub decreases-looks : goal.decreases-looks
decreases-looks g l = length l.left
