use Rattle.std.proofs.Common.{take}
use Rattle.mh_inline_unfold.specs.code.Sizes.{AreEachSized, IsEachSize}
use Rattle.mh_inline.proofs.sizes.size_of_alternatives.Given as goal

abbrev pub invariant-loop-production : goal.invariant-loop-production
invariant-loop-production l = record {
  size : IsEachSize l.expanded.instances (take l.production-index l.productions) l.size;
  sized : AreEachSized l.expanded.instances l.sizes (take l.production-index l.productions);
}
