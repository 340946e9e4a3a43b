use Rattle.std.proofs.Common.{length, refl, arith, inl, inr}
use Rattle.std.proofs.lemmas.Option.{slice_get_read}
use Rattle.mh_items.proofs.HasNextItem.{next_is_left, next_is_right, next_of, item_order_is}
use Rattle.mh_items.proofs.merging.next_side.Goals as goal

pub returns-then-j-right : goal.returns-then-j-right
returns-then-j-right _ c = next_is_left c.args.left.now c.args.right.now c.args.i c.args.j c.if-j-right.true (let far = c.if-j-right.true in elim c.requires.more [ inl l ↦ l | inr r ↦ absurd (omega arith) ])

pub returns-then-i-left : goal.returns-then-i-left
returns-then-i-left _ c = next_is_right c.args.left.now c.args.right.now c.args.i c.args.j c.if-i-left.true c.if-j-right.false

pub returns : goal.returns
returns _ c =
    let x = c.index-left-i.result in
    let y = c.index-right-j.result in
    next_of c.args.left.now c.args.right.now c.args.i c.args.j x y
    (slice_get_read c.args.left.now (length c.args.left.now) c.args.i x refl c.if-i-left.false c.index-left-i.is)
    (slice_get_read c.args.right.now (length c.args.right.now) c.args.j y refl c.if-j-right.false c.index-right-j.is)
    c.order.result (rw c.order.ensures (item_order_is x y))
