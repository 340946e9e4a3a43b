use Rattle.std.proofs.Common.{refl}
use Rattle.mh_rules.specs.declared.instances.Part.TheVariants.{Token}
use Rattle.mh_inline.proofs.UnfoldingSizes.{unsized_producer_at, side_none, side_more, sized_none, sized_more}
use Rattle.mh_inline.proofs.sizes.size_of_side.Goals as goal

pub loop-part-init : goal.loop-part-init
loop-part-init c = record { size = side_none c.args.expanded.now.instances _ refl refl; sized = sized_none c.args.expanded.now.instances c.args.sizes.now }

pub loop-part-preserved : goal.loop-part-preserved
loop-part-preserved c = record {
  size = side_more c.args.expanded.now.instances c.args.producers.now c.loop-part.part-index (Token 0) c.loop-part.size c.in-Some.next c.times-size.result c.loop-part-test.true c.loop-part.invariant.size c.in-Some.ensures.size c.times-size.ensures.count c.times-size.ensures.longest;
  sized = sized_more c.args.expanded.now.instances c.args.sizes.now c.args.producers.now c.loop-part.part-index (Token 0) c.loop-part-test.true c.loop-part.invariant.sized c.in-Some.ensures.sized;
}

pub returns-in_default-clause-size : goal.returns-in_default-clause-size
returns-in_default-clause-size c = unsized_producer_at c.args.expanded.now.instances c.args.sizes.now c.args.producers.now c.loop-part.part-index (Token 0) c.loop-part-test.true c.in_default.ensures.size
