use Rattle.std.proofs.Common.{arith}
use Rattle.mh_grammar.proofs.Heights.{item_height_le}
use Rattle.mh_tree.proofs.tokens.+yields.Goals as goal

pub push_children-push_tokens-requires : goal.push_children-push_tokens-requires
push_children-push_tokens-requires t c =
    let below = item_height_le c.args.children.now c.loop-child.child-index c.child-item.result c.loop-child-test.true c.child-item.is in
    (omega (arith, below, c.decreases), tt)
