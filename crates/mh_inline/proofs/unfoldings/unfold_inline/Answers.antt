use Rattle.std.proofs.Common.{◌∙◌, arith, subst}
use Rattle.mh_inline.specs.code.LastUses.{AreLastUses}
use Rattle.mh_inline.proofs.LastUses.{order_within-get_or, KnowsNeeded-start, KnowsNeeded-all}
use Rattle.mh_inline.proofs.unfoldings.unfold_inline.Goals as goal

pub last_uses-requires : goal.last_uses-requires
last_uses-requires c = order_within-get_or c.args.expanded.now.instances c.args.sizing.now c.as_slice.result.now c.as_slice.ensures.value c.requires.sizing

pub loop-place-init : goal.loop-place-init
loop-place-init c = KnowsNeeded-start c.args.expanded.now.instances c.args.sizing.now.order.items c.in_ok-last.last.items c.in_ok-known.known.items (c.in_ok-known.ensures ∙ c.len.ensures)

pub unfold_next-requires-clause-last : goal.unfold_next-requires-clause-last
unfold_next-requires-clause-last c = rw c.deref.ensures.value (subst (λ o. AreLastUses c.args.expanded.now.instances o c.in_ok-last.last.items) c.as_slice.ensures.value c.in_ok-last.ensures)

pub unfold_next-requires-clause-at : goal.unfold_next-requires-clause-at
unfold_next-requires-clause-at c = omega (arith, c.loop-place-test.true, c.len-place-end.ensures)

pub unfold_next-requires-clause-known : goal.unfold_next-requires-clause-known
unfold_next-requires-clause-known c = rw c.deref.ensures.value c.loop-place.invariant

pub loop-place-preserved : goal.loop-place-preserved
loop-place-preserved c = rw c.deref.ensures.value at c.in_ok-unfold_next.ensures

pub returns : goal.returns
returns c =
    let is = c.args.expanded.now.instances in
    let last = subst (λ o. AreLastUses is o c.in_ok-last.last.items) c.as_slice.ensures.value c.in_ok-last.ensures in
    KnowsNeeded-all is c.args.sizing.now.order.items c.in_ok-last.last.items c.loop-place.known.items c.loop-place.place (omega (arith, c.loop-place-test.false, c.loop-place.auto.place-end, c.len-place-end.ensures)) last c.loop-place.invariant
