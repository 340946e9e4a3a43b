use Rattle.mh_inline_unfold.specs.code.Sizes.{IsSizeTable}
use Rattle.mh_inline.proofs.sizes.size_in_order.Given as goal

abbrev pub invariant-loop-number : goal.invariant-loop-number
invariant-loop-number l = IsSizeTable l.expanded.instances l.sizing
