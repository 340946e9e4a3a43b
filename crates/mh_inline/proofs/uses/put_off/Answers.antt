use Rattle.std.proofs.Common.{◌≡◌, ◌<◌, ◌≤◌, length, get_or, refl, ◌∙◌, arith}
use Rattle.std.proofs.lemmas.List.{get_or_default}
use Rattle.mh_inline.proofs.LastUses.{RaisesLastUse-none, RaisesLastUse-more}
use Rattle.mh_inline.proofs.uses.put_off.Goals as goal

pub loop-number-init : goal.loop-number-init
loop-number-init c = RaisesLastUse-none c.args.place c.args.last.now.items

pub loop-number-preserved : goal.loop-number-preserved
loop-number-preserved c =
    let numbers = c.args.numbers.now in
    let i = c.loop-number.number-index in
    let last = c.loop-number.last.items in
    let n = get_or numbers i 0 in
    let len = c.loop-number.invariant.len in
    let inside : n < length c.args.last.now.items = c.requires i 0 c.loop-number-test.true in
    let within : n < length last = omega arith in
    let read : c.index.result.now ≡ get_or last n 0 = c.index.ensures ∙ get_or_default last n c.index.result.now 0 within in
    let value = c.max.ensures in
    let grows : get_or last n 0 ≤ c.max.result = omega arith in
    let reaches : c.args.place ≤ c.max.result = omega arith in
    RaisesLastUse-more numbers i n c.args.place c.max.result c.args.last.now.items last c.loop-number-test.true refl within grows reaches c.loop-number.invariant
