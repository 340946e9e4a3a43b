use Rattle.std.proofs.Common.{◌≡◌, ◌<◌, ◌++◌, ◌∷◌, [], length, set, refl, inl, inr, arith}
use Rattle.std.proofs.lemmas.List.{get_or_read}
use Rattle.mh_items.specs.code.SymbolRows.{row_at}
use Rattle.mh_items.proofs.AreRowsOfMoves.{filled_first, filled_more}
use Rattle.mh_items.proofs.rows.SymbolRows.add.Goals as goal

pub returns-clause-filled : goal.returns-clause-filled
returns-clause-filled g c filled =
    let old = c.args.self.now in
    let mid = c.note_filled.new.self in
    let place = c.args.place in
    let kept = c.in_ok-note_filled.ensures.rows in
    let within : place < length old.rows.items = omega (arith, c.requires.place, old.rows.ok.0) in
    let inside : place < length mid.rows.items = rw kept within in
    let was : c.index_mut.result.now ≡ row_at mid place = get_or_read mid.rows.items place c.index_mut.result.now inside c.index_mut.ensures.value [] in
    let rows : set mid.rows.items place c.push.new.self ≡ set old.rows.items place (row_at old place ++ c.args.item ∷ []) = rw (c.in_ok-push.ensures.ok, was, kept) refl in
    elim c.in_ok-note_filled.ensures.listed [
      | inl some ↦ filled_more old _ place c.args.item within rows filled some.0 some.1
      | inr first ↦ filled_first old _ place c.args.item within rows filled first.1
    ]
