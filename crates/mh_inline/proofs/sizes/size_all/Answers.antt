use Rattle.std.proofs.Common.{ap}
use Rattle.mh_inline_unfold.specs.code.Sizes.{unsized_count}
use Rattle.mh_inline.proofs.SizeOrder.{measure_falls}
use Rattle.mh_inline.proofs.sizes.size_all.Goals as goal

pub loop-changed-smaller : goal.loop-changed-smaller
loop-changed-smaller c = measure_falls c.in_ok-changed.changed c.loop-changed.changed (unsized_count c.size_once.new.sizing) (unsized_count c.loop-changed.sizing) c.loop-changed-test.true c.in_ok-changed.ensures.more (λ e. ap unsized_count (c.in_ok-changed.ensures.same e).0)
