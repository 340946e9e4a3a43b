use Rattle.std.proofs.Common.{refl}
use Rattle.mh_inline.proofs.MadeProductions.{size_none, size_more, no_origin}
use Rattle.mh_inline.proofs.productions.size_of_origins.Goals as goal

pub loop-origin-init : goal.loop-origin-init
loop-origin-init c = size_none c.args.expanded.now.tokens c.args.expanded.now.instances _ refl refl

pub loop-origin-preserved : goal.loop-origin-preserved
loop-origin-preserved c = size_more c.args.expanded.now.tokens c.args.expanded.now.instances c.args.origins.now c.loop-origin.origin-index no_origin c.alternative.result.now c.loop-origin.size c.in-Some.next c.plus-size.result c.loop-origin-test.true c.alternative.ensures c.loop-origin.invariant (rw c.as_slice-side.ensures at c.in-Some.ensures.size) c.plus-size.ensures.count c.plus-size.ensures.longest
