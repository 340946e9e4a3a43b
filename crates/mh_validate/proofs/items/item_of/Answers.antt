use Rattle.std.proofs.Common.{arith, sym, ◌∙◌, true≢false}
use Rattle.mh_validate.proofs.ItemsRead.{item_place, item_from}
use Rattle.mh_validate.proofs.items.item_of.Goals as goal

pub returns-then-not-is_place : goal.returns-then-not-is_place
returns-then-not-is_place g c item is = true≢false (sym (c.is_place.ensures.1 (item_place c.args.grammar.now c.args.raw.now item is)) ∙ c.if-not-is_place.true)

pub returns : goal.returns
returns g c =
    let place = c.is_place.ensures.0 c.if-not-is_place.false in
    item_from c.args.grammar.now c.args.raw.now c.in-Some.looks place.0 place.1 (let n = c.len.ensures in omega (arith, n, c.if-len-eq0.false)) c.in-Some.ensures
