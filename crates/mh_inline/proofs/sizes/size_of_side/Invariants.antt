use Rattle.std.proofs.Common.{take}
use Rattle.mh_inline_unfold.specs.code.Sizes.{AreSized, IsSideSize}
use Rattle.mh_inline.proofs.sizes.size_of_side.Given as goal

abbrev pub invariant-loop-part : goal.invariant-loop-part
invariant-loop-part l = record {
  size : IsSideSize l.expanded.instances (take l.part-index l.producers) l.size;
  sized : AreSized l.expanded.instances l.sizes (take l.part-index l.producers);
}
