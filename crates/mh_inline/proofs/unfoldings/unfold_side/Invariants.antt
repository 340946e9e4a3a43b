use Rattle.std.proofs.Common.{take}
use Rattle.mh_inline_unfold.specs.Unfoldings.{Unfolds}
use Rattle.mh_inline.proofs.unfoldings.unfold_side.Given as goal

abbrev pub invariant-loop-part : goal.invariant-loop-part
invariant-loop-part l = Unfolds l.expanded.instances (take l.part-index l.producers) l.all.items
