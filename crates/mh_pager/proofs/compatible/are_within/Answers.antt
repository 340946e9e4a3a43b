use Rattle.std.proofs.Common.{◌≡◌, Some, length, refl, sym, ◌∙◌, arith}
use Rattle.std.specs.List.{slice_get}
use Rattle.std.proofs.lemmas.Option.{slice_get_read, slice_get_within}
use Rattle.mh_pager.specs.code.ItemLists.{AreLooksWithin}
use Rattle.mh_pager.proofs.AllPairs.{pairs_more}
use Rattle.mh_pager.proofs.compatible.are_within.Goals as goal

pub returns-then-not-item_within : goal.returns-then-not-item_within
returns-then-not-item_within g c =
    let x = c.index-left-i.result in
    let y = c.index-right-i.result in
    let at : slice_get c.args.left.now c.loop-i.i ≡ Some x = slice_get_read c.args.left.now (length c.args.left.now) c.loop-i.i x refl c.loop-i-test.true c.index-left-i.is in
    let at' : slice_get c.args.right.now c.loop-i.i ≡ Some y = slice_get_read c.args.right.now (length c.args.left.now) c.loop-i.i y c.requires.core c.loop-i-test.true c.index-right-i.is in
    ((λ t. cc), (λ h. sym c.if-not-item_within.true ∙ c.item_within.ensures.1 (h c.loop-i.i x y at at')))

pub loop-i-preserved : goal.loop-i-preserved
loop-i-preserved g c =
    let x = c.index-left-i.result in
    let y = c.index-right-i.result in
    let at : slice_get c.args.left.now c.loop-i.i ≡ Some x = slice_get_read c.args.left.now (length c.args.left.now) c.loop-i.i x refl c.loop-i-test.true c.index-left-i.is in
    let at' : slice_get c.args.right.now c.loop-i.i ≡ Some y = slice_get_read c.args.right.now (length c.args.left.now) c.loop-i.i y c.requires.core c.loop-i-test.true c.index-right-i.is in
    pairs_more (λ a b. AreLooksWithin a.looks b.looks) c.args.left.now c.args.right.now c.loop-i.i x y c.loop-i.invariant at at' (c.item_within.ensures.0 c.if-not-item_within.false)

pub returns : goal.returns
returns g c = ((λ t i x y e f. c.loop-i.invariant i x y (omega (arith, slice_get_within c.args.left.now i x e, c.loop-i-test.false)) e f), (λ h. refl))
