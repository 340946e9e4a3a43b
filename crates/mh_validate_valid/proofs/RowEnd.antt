-- Lemmas on the end of the cell lines of a row.
use Rattle.std.proofs.Common.{◌≡◌, ◌↔◌, ◌≤◌, ℕ, List, [], length, drop, nat_eq, IsTrue, sym, ap, ◌∙◌, arith, drop_of_length-le, length-drop, eqb-true, eq-eqb}
use Rattle.mh_grammar.specs.declared.types.Grammar.{Grammar}
use Rattle.mh_tables_core.specs.declared.parts.Action.{Action}
use Rattle.mh_tabfile_form.specs.declared.types.RawCell.{RawCell}
use Rattle.mh_tabfile_form.specs.TableContent.{raw_row}

pub row_end : (g : Grammar) (raws : List RawCell) (row : List Action) (next token : ℕ) → length row ≤ token → next ≤ length raws → ((drop next raws ≡ raw_row g token (drop token row)) ↔ (raws ≡ raw_row g 0 row)) → IsTrue (nat_eq next (length raws)) ↔ (raws ≡ raw_row g 0 row)
row_end g raws row next token past within h =
    let none : raw_row g token (drop token row) ≡ [] = ap (raw_row g token) (drop_of_length-le row past) in (
      λ e. let same : next ≡ length raws = eqb-true next (length raws) e in
          let over : length raws ≤ next = omega (arith, same) in
          h.0 (drop_of_length-le raws over ∙ sym none),
      λ e. let gone : drop next raws ≡ [] = h.1 e ∙ none in
          let same : next ≡ length raws = omega (arith, within, ap length gone, length-drop next raws) in
          eq-eqb next (length raws) same,
    )
