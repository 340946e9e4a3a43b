use Rattle.std.proofs.Common.{◌≡◌, Some, sym, ap, ◌∙◌, rules, lit<, arith}
use Rattle.std.specs.List.{slice_get}
use Rattle.std.proofs.lemmas.Option.{slice_get_within}
use Rattle.std.proofs.lemmas.Result.{on_ok_weaker}
use Rattle.mh_grammar.specs.declared.types.Symbol.TheVariants.{N}
use Rattle.mh_grammar.specs.Plain.{plain_of, rhs_of}
use Rattle.mh_items_kernels.proofs.RhsInRange.{target_below}
use Rattle.mh_items.proofs.AddsLooks.{AddsLooks-none}
use Rattle.mh_items.proofs.IsStringFirst.{no_token, not_none}
use Rattle.mh_items.proofs.IsKernelLook.{adds_item_looks, no_item_looks}
use Rattle.mh_items.proofs.closures.add_item.Goals as goal

pub looks_after_symbol-looks-requires : goal.looks_after_symbol-looks-requires
looks_after_symbol-looks-requires _ c =
    let item = c.args.item.now in
    let side = rhs_of (plain_of c.args.grammar.now) item.production in
    let at : slice_get side item.dot ≡ Some (N c.in-Some-N.n) = sym c.symbol_at.ensures ∙ c.in-Some-N.is ∙ ap Some c.in-Some-N.field-0-is in
    (search rules, (search rules, (c.requires.fits, (c.requires.sets, (c.requires.item, slice_get_within side item.dot (N c.in-Some-N.n) at)))))

pub add-requires : goal.add-requires
add-requires _ c =
    let g = plain_of c.args.grammar.now in
    let at : slice_get (rhs_of g c.args.item.now.production) c.args.item.now.dot ≡ Some (N c.in-Some-N.n) = sym c.symbol_at.ensures ∙ c.in-Some-N.is ∙ ap Some c.in-Some-N.field-0-is in
    let below = target_below g c.requires.fits.range c.args.item.now.production c.args.item.now.dot c.in-Some-N.n c.requires.item.production at in
    let size = c.requires.size in
    (lit< tt, (search rules, (c.requires.fits.few, (omega arith, c.requires.table))))

pub returns-in-Some-N : goal.returns-in-Some-N
returns-in-Some-N _ c =
    let g = plain_of c.args.grammar.now in
    let at : slice_get (rhs_of g c.args.item.now.production) c.args.item.now.dot ≡ Some (N c.in-Some-N.n) = sym c.symbol_at.ensures ∙ c.in-Some-N.is ∙ ap Some c.in-Some-N.field-0-is in
    on_ok_weaker c.add.result (λ d. adds_item_looks g c.args.item.now c.in-Some-N.n c.looks_after_symbol-looks.result c.args.set.now c.add.new.self at c.looks_after_symbol-looks.ensures d) c.add.ensures

pub returns-in-Some-T : goal.returns-in-Some-T
returns-in-Some-T _ c = AddsLooks-none _ _ c.requires.table (no_item_looks (plain_of c.args.grammar.now) c.args.item.now (λ n at. no_token n _ (sym at ∙ sym c.symbol_at.ensures ∙ c.in-Some-T.is ∙ ap Some c.in-Some-T.field-0-is)))

pub returns-in-None : goal.returns-in-None
returns-in-None _ c = AddsLooks-none _ _ c.requires.table (no_item_looks (plain_of c.args.grammar.now) c.args.item.now (λ n at. not_none n (sym at ∙ sym c.symbol_at.ensures ∙ c.in-None.is)))
