use Rattle.std.proofs.Common.{◌≡◌, ◌<◌, ◌≤◌, ◌+◌, ℕ, true, false, length}
use Rattle.mh_inline_unfold.specs.code.Sizes.{IsFixedAt, IsSizeTable, unsized_count}
use Rattle.mh_inline.proofs.sizes.size_once.Given as goal

abbrev pub invariant-loop-done : goal.invariant-loop-done
invariant-loop-done l = record {
  sizing : IsSizeTable l.expanded.instances l.sizing;
  count : l.count ≡ length l.expanded.instances;
  same : l.changed ≡ false → l.sizing ≡ l.initial.sizing;
  settled : l.changed ≡ false → (n : ℕ) → l.count ≤ n + l.done → IsFixedAt l.expanded.instances l.sizing.sizes.items n;
  more : l.changed ≡ true → unsized_count l.sizing < unsized_count l.initial.sizing;
}
