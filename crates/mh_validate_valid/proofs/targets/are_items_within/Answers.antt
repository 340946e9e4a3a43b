use Rattle.std.proofs.Common.{sym, true≢false}
use Rattle.mh_grammar.proofs.Lists.{zip_length}
use Rattle.mh_validate_valid.specs.code.KernelWithin.{IsItemWithin}
use Rattle.mh_validate_valid.proofs.FirstDifference.{zip_all, zip_next, zip_differs}
use Rattle.mh_validate_valid.proofs.targets.are_items_within.Goals as goal

pub returns-then-inner-outer : goal.returns-then-inner-outer
returns-then-inner-outer g c = (λ t. absurd (true≢false (sym t)), λ z. absurd (c.if-inner-outer.true (zip_length IsItemWithin c.args.inner.now c.args.outer.now z)))

pub returns-then-not-is_item_within : goal.returns-then-not-is_item_within
returns-then-not-is_item_within g c = zip_differs IsItemWithin c.args.inner.now c.args.outer.now c.loop-at.at c.index-inner-at.result c.index-outer-at.result c.loop-at-test.true c.loop-at.invariant.same c.index-inner-at.is c.index-outer-at.is c.loop-at.invariant.rest c.is_item_within.result c.is_item_within.ensures c.if-not-is_item_within.true

pub loop-at-preserved : goal.loop-at-preserved
loop-at-preserved g c = record {
  same = c.loop-at.invariant.same;
  rest = zip_next IsItemWithin c.args.inner.now c.args.outer.now c.loop-at.at c.index-inner-at.result c.index-outer-at.result c.loop-at-test.true c.loop-at.invariant.same c.index-inner-at.is c.index-outer-at.is c.loop-at.invariant.rest c.is_item_within.result c.is_item_within.ensures c.if-not-is_item_within.false;
}

pub returns : goal.returns
returns g c = zip_all IsItemWithin c.args.inner.now c.args.outer.now c.loop-at.at c.loop-at-test.false c.loop-at.invariant.same c.loop-at.invariant.rest
