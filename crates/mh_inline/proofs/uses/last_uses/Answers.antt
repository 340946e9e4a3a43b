use Rattle.std.proofs.Common.{length, get_or, arith}
use Rattle.std.proofs.lemmas.Option.{slice_get-get_or}
use Rattle.mh_inline.proofs.LastUses.{AreLastUsesTo-inline, AreLastUsesTo-kept, AreLastUsesTo-all}
use Rattle.mh_inline.proofs.uses.last_uses.Goals as goal

pub loop-place-preserved : goal.loop-place-preserved
loop-place-preserved c =
    let order = c.args.order.now in
    let i = c.loop-place.place in
    AreLastUsesTo-inline c.args.expanded.now.instances order i (get_or order i 0) c.loop-place.last.items c.put_off_inlined.new.last.items (slice_get-get_or order i 0 c.loop-place-test.true) c.in_ok-put_off_inlined.ensures c.loop-place.invariant

pub loop-number-init : goal.loop-number-init
loop-number-init c = let h = c.loop-place.invariant in record { len = h.len; inline = λ i n m l e x. h.inline i n m (omega (arith, c.loop-place-test.false)) e x; kept = λ n m l k x. absurd (omega arith) }

pub loop-number-preserved : goal.loop-number-preserved
loop-number-preserved c = AreLastUsesTo-kept c.args.expanded.now.instances c.args.order.now (length c.args.order.now) c.loop-number.number c.loop-number.last.items c.put_off_kept.new.last.items c.in_ok-put_off_kept.ensures c.loop-number.invariant

pub returns : goal.returns
returns c = AreLastUsesTo-all c.args.expanded.now.instances c.args.order.now (length c.args.order.now) c.loop-number.number c.loop-number.last.items (omega arith) (omega (arith, c.loop-number-test.false, c.len-number-end.ensures)) c.loop-number.invariant
