use Rattle.std.proofs.Common.{length, refl}
use Rattle.std.proofs.lemmas.Option.{slice_get_read}
use Rattle.mh_inline.proofs.UnfoldingSizes.{each_none, each_more, sized_alternatives_none, sized_alternatives_more}
use Rattle.mh_inline.proofs.sizes.size_of_alternatives.Goals as goal

pub loop-production-init : goal.loop-production-init
loop-production-init c = record { size = each_none c.args.expanded.now.instances _ refl refl; sized = sized_alternatives_none c.args.expanded.now.instances c.args.sizes.now }

pub loop-production-preserved : goal.loop-production-preserved
loop-production-preserved c = record {
  size = each_more c.args.expanded.now.instances c.args.productions.now c.loop-production.production-index c.production-item.result c.loop-production.size c.in-Some.next c.plus-size.result c.loop-production-test.true c.production-item.is c.loop-production.invariant.size (rw c.as_slice.ensures at c.in-Some.ensures.size) c.plus-size.ensures.count c.plus-size.ensures.longest;
  sized = sized_alternatives_more c.args.expanded.now.instances c.args.sizes.now c.args.productions.now c.loop-production.production-index c.production-item.result c.loop-production-test.true c.production-item.is c.loop-production.invariant.sized (rw c.as_slice.ensures at c.in-Some.ensures.sized);
}

pub returns-in_default-clause-size : goal.returns-in_default-clause-size
returns-in_default-clause-size c = record {
  place = c.loop-production.production-index;
  production = c.production-item.result;
  at = slice_get_read c.args.productions.now (length c.args.productions.now) c.loop-production.production-index c.production-item.result refl c.loop-production-test.true c.production-item.is;
  blocked = rw c.as_slice.ensures at c.in_default.ensures.size;
}
