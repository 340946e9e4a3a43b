use Rattle.std.proofs.Common.{◌≡◌, ◌+◌, false, if◌then◌else◌}
use Rattle.mh_inline_unfold.specs.code.Sizes.{IsSizeFixedPoint, IsSizeTable, unsized_count}
use Rattle.mh_inline.proofs.sizes.size_all.Given as goal

abbrev pub invariant-loop-changed : goal.invariant-loop-changed
invariant-loop-changed l = record {
  sizing : IsSizeTable l.expanded.instances l.sizing;
  settled : l.changed ≡ false → IsSizeFixedPoint l.expanded.instances l.sizing.sizes.items;
}

abbrev pub decreases-loop-changed : goal.decreases-loop-changed
decreases-loop-changed l = unsized_count l.sizing + (if l.changed then 1 else 0)
