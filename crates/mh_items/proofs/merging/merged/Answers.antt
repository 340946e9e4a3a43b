use Rattle.std.proofs.Common.{arith}
use Rattle.mh_grammar.specs.Plain.{plain_of}
use Rattle.mh_items.proofs.IsUnionSoFar.{IsUnionSoFar-start, union_of}
use Rattle.mh_items.proofs.merging.merged.Goals as goal

pub items-init : goal.items-init
items-init _ c = rw c.in_ok-items.ensures.items (IsUnionSoFar-start (plain_of c.args.grammar.now) c.args.left.now c.args.right.now)

pub items-preserved : goal.items-preserved
items-preserved _ c = rw c.in_ok-push.ensures.items (c.next_item-item.ensures.merged c.items.items.items c.items.invariant)

pub items-smaller : goal.items-smaller
items-smaller _ c =
    let merged = c.next_item-item.ensures.merged c.items.items.items c.items.invariant in
    omega (arith, merged.in_left, merged.in_right, c.next_item-item.ensures.more)

pub returns : goal.returns
returns _ c = rw c.from_vec.ensures (union_of (plain_of c.args.grammar.now) c.args.left.now c.args.right.now c.items.items.items c.items.i c.items.j c.if-i-left.false c.if-j-right.false c.items.invariant)
