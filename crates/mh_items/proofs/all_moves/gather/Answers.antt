use Rattle.std.proofs.Common.{◌≡◌, Some, length, refl, sym, ◌∙◌, arith, rules}
use Rattle.std.specs.List.{slice_get}
use Rattle.std.proofs.lemmas.Option.{slice_get_read, slice_get_within}
use Rattle.mh_grammar.specs.Plain.{plain_of, rhs_of}
use Rattle.mh_grammar.proofs.Lists.{recursion_at}
use Rattle.mh_items_kernels.specs.Kernels.{IsKernelItem}
use Rattle.mh_items_kernels.proofs.RhsInRange.{short_rhs}
use Rattle.mh_items.proofs.AreRowsOfMoves.{symbol_below, GatheredSoFar-start, GatheredSoFar-push, GatheredSoFar-skip, GatheredSoFar-all}
use Rattle.mh_items.proofs.all_moves.gather.Goals as goal
use Rattle.mh_items.proofs.all_moves.gather.Goals.{in-Some+in_ok-add, in_default}

pub loop-item-init : goal.loop-item-init
loop-item-init g c = GatheredSoFar-start (plain_of c.args.grammar.now) c.args.items.now c.args.rows.now c.requires.empty

pub place-requires-clause-symbol : goal.place-requires-clause-symbol
place-requires-clause-symbol g c =
    let g = plain_of c.args.grammar.now in
    let items = c.args.items.now in
    let i = c.loop-item.item-index in
    let y = c.item-item.result in
    let at : slice_get items i ≡ Some y = slice_get_read items (length items) i y refl c.loop-item-test.true c.item-item.is in
    symbol_below g c.requires.fits.range y.production y.dot c.in-Some.symbol (recursion_at (IsKernelItem g) items c.requires.kernel.items i y at).production (sym c.symbol_at.ensures ∙ c.in-Some.is)

pub advanced-requires : goal.advanced-requires
advanced-requires g c =
    let g = plain_of c.args.grammar.now in
    let items = c.args.items.now in
    let i = c.loop-item.item-index in
    let y = c.item-item.result in
    let at : slice_get items i ≡ Some y = slice_get_read items (length items) i y refl c.loop-item-test.true c.item-item.is in
    let few = short_rhs g c.requires.fits.range y.production (recursion_at (IsKernelItem g) items c.requires.kernel.items i y at).production in
    let within = slice_get_within (rhs_of g y.production) y.dot c.in-Some.symbol (sym c.symbol_at.ensures ∙ c.in-Some.is) in
    (search rules, omega arith)

pub loop-item-preserved : goal.loop-item-preserved
loop-item-preserved g c =
    let g = plain_of c.args.grammar.now in
    let items = c.args.items.now in
    let i = c.loop-item.item-index in
    let y = c.item-item.result in
    let at : slice_get items i ≡ Some y = slice_get_read items (length items) i y refl c.loop-item-test.true c.item-item.is in
    elim c.match-symbol_at.branch [
      | in-Some+in_ok-add w ↦ rw w.rows-is (GatheredSoFar-push g items i y c.loop-item.rows w.add.new.self c.requires.kernel c.loop-item.invariant at w.in-Some.symbol w.advanced.result c.requires.fits.range (sym c.symbol_at.ensures ∙ w.in-Some.is) w.advanced.ensures (rw w.place.ensures.at at w.in_ok-add.ensures.rows) w.in_ok-add.ensures.filled)
      | in_default w ↦ rw w.rows-is (GatheredSoFar-skip g items i y c.loop-item.rows c.loop-item.rows c.requires.kernel c.loop-item.invariant at (sym c.symbol_at.ensures ∙ w.in_default.is))
    ]

pub returns : goal.returns
returns g c = GatheredSoFar-all (plain_of c.args.grammar.now) c.args.items.now c.loop-item.item-index c.loop-item.rows c.loop-item-test.false c.loop-item.invariant
