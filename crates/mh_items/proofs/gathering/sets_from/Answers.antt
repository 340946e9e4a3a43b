use Rattle.std.proofs.Common.{◌≡◌, ◌≤◌, ℕ, List, [], Some, length, map, sym, ap, refl, ◌∙◌, arith, rules}
use Rattle.std.specs.List.{slice_get}
use Rattle.std.proofs.lemmas.List.{length-map, get_or-map}
use Rattle.std.proofs.lemmas.Option.{slice_get-get_or}
use Rattle.mh_grammar.specs.Plain.{plain_of}
use Rattle.mh_items.proofs.AreFirsts.{next_first, FirstsSoFar-push}
use Rattle.mh_items.proofs.gathering.sets_from.Goals as goal

pub set_of-requires : goal.set_of-requires
set_of-requires g c =
    let p = plain_of c.args.grammar.now in
    let rows : List (List ℕ) = map (λ row. row.items) c.args.rows.now in
    let i = c.loop-row.row-index in
    let len : length rows ≡ length c.args.rows.now = rw length-map refl in
    let at : slice_get rows i ≡ Some c.as_slice.result.now = slice_get-get_or rows i [] (omega (arith, c.loop-row-test.true)) ∙ ap Some (get_or-map (λ row. row.items) c.args.rows.now i c.row-item.result [] c.loop-row-test.true ∙ ap (λ row. row.items) (sym c.row-item.is) ∙ sym c.as_slice.ensures.value) in
    let next = next_first p g.row.W rows i c.as_slice.result.now c.requires.fits.range c.requires.fits.width (len ∙ c.requires.len) c.requires.exact at in
    (search rules, (c.requires.fits.few, next.below))

pub loop-row-preserved : goal.loop-row-preserved
loop-row-preserved g c =
    let p = plain_of c.args.grammar.now in
    let rows : List (List ℕ) = map (λ row. row.items) c.args.rows.now in
    let i = c.loop-row.row-index in
    let len : length rows ≡ length c.args.rows.now = rw length-map refl in
    let at : slice_get rows i ≡ Some c.as_slice.result.now = slice_get-get_or rows i [] (omega (arith, c.loop-row-test.true)) ∙ ap Some (get_or-map (λ row. row.items) c.args.rows.now i c.row-item.result [] c.loop-row-test.true ∙ ap (λ row. row.items) (sym c.row-item.is) ∙ sym c.as_slice.ensures.value) in
    let next = next_first p g.row.W rows i c.as_slice.result.now c.requires.fits.range c.requires.fits.width (len ∙ c.requires.len) c.requires.exact at in
    rw c.in_ok-push.ensures.items (FirstsSoFar-push p c.loop-row.made.items i c.set_of.result c.loop-row.invariant
    (λ b. ((λ k. (next.exact b).0 ((c.set_of.ensures b).0 k)), (λ k. (c.set_of.ensures b).1 ((next.exact b).1 k)))))

pub returns : goal.returns
returns _ c =
    let h = c.loop-row.invariant in
    let all : length c.args.rows.now ≤ c.loop-row.row-index = c.loop-row-test.false in
    let end = c.loop-row.auto.row-index-end in
    rw c.from_vec.ensures (record { len = h.len ∙ omega (arith, c.requires.len); exact = λ n b l. h.exact n b (omega (arith, c.requires.len)) })
