use Rattle.mh_inline.specs.code.LastUses.{KnowsNeeded}
use Rattle.mh_inline.proofs.unfoldings.unfold_inline.Given as goal

abbrev pub invariant-loop-place : goal.invariant-loop-place
invariant-loop-place l = KnowsNeeded l.expanded.instances l.sizing.order.items l.last.items l.place l.known.items
