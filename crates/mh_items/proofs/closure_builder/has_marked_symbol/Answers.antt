use Rattle.std.proofs.Common.{◌≡◌, Some, sym, ap, ◌∙◌, arith}
use Rattle.std.specs.List.{slice_get}
use Rattle.mh_grammar.specs.declared.types.Symbol.TheVariants.{N}
use Rattle.mh_grammar.specs.Plain.{plain_of, rhs_of}
use Rattle.mh_items_kernels.proofs.RhsInRange.{target_below}
use Rattle.mh_items.proofs.closure_builder.has_marked_symbol.Goals as goal

pub bounds-marks-from : goal.bounds-marks-from
bounds-marks-from g c =
    let grammar = plain_of c.args.grammar.now in
    let item = c.args.item.now in
    let at : slice_get (rhs_of grammar item.production) item.dot ≡ Some (N c.in-Some-N.n) = sym c.symbol_at.ensures ∙ c.in-Some-N.is ∙ ap Some c.in-Some-N.field-0-is in
    let below = target_below grammar c.requires.fits.range item.production item.dot c.in-Some-N.n c.requires.item.production at in
    rw c.from.ensures (omega (arith, below, c.requires.marks))
