-- Lemmas on the cells of a row from one token on.
use Rattle.std.proofs.Common.{◌≡◌, ◌<◌, ◌+◌, ◌++◌, ℕ, zero, suc, true, List, [], ◌∷◌, length, drop, get_or, refl, sym, ap, ◌∙◌, subst, arith}
use Rattle.std.specs.Prelude.{slice_index_or}
use Rattle.std.proofs.lemmas.List.{get_or_default}
use Rattle.mh_grammar.proofs.Lists.{get_or_own_default}
use Rattle.mh_grammar.specs.declared.types.Grammar.{Grammar}
use Rattle.mh_tables_core.specs.declared.parts.Action.{Action}
use Rattle.mh_tables_core.specs.declared.parts.Action.TheVariants.{Shift, Reduce, Refuse}
use Rattle.mh_tables_core.specs.declared.parts.StateParts.{StateParts}
use Rattle.mh_tables_core.specs.Table.{no_state}
use Rattle.mh_tabfile_form.specs.declared.types.RawCell.{RawCell}
use Rattle.mh_tabfile_form.specs.declared.types.RawCells.TheVariants as lines
use Rattle.mh_tabfile_form.specs.declared.types.RawTable.{RawTable}
use Rattle.mh_tabfile_form.specs.TableContent.{raw_cell, raw_row, raw_cells}
use Rattle.mh_validate_valid.specs.Valid.{has_cell_lines, raw_state}
use Rattle.mh_validate_valid.specs.code.FirstCells.{AreFirstCells}

-- If the first cell acts, the row has a cell line.
has_first : (g : Grammar) (z : ℕ) (a : Action) (rest : List RawCell) → (a ≡ Refuse → ⊥) → has_cell_lines (lines.Cells (raw_cell g z a ++ rest)) ≡ true
has_first g z (Shift j) rest h = refl
has_first g z (Reduce p) rest h = refl
has_first g z Refuse rest h = absurd (h refl)

pub row_from : {X : Type 0} (cells : List X) (token : ℕ) (a : X) → token < length cells → a ≡ get_or cells token a → drop token cells ≡ a ∷ drop (suc token) cells
row_from [] token a lt e = absurd (omega (arith, lt))
row_from (c ∷ cells) zero a lt e = ap (λ x. x ∷ cells) (sym e)
row_from (c ∷ cells) (suc token) a lt e = row_from cells token a (omega (arith, lt)) e

pub row_acts : (g : Grammar) (cells : List Action) (token : ℕ) (a : Action) (row : List RawCell) → token < length cells → a ≡ get_or cells token a → raw_row g token (drop token cells) ≡ row → (a ≡ Refuse → ⊥) → has_cell_lines (lines.Cells row) ≡ true
row_acts g cells token a row lt e same acts =
    let here : raw_cell g token a ++ raw_row g (token + 1) (drop (suc token) cells) ≡ row = ap (raw_row g token) (sym (row_from cells token a lt e)) ∙ same in
    subst (λ r. has_cell_lines (lines.Cells r) ≡ true) here (has_first g token a (raw_row g (token + 1) (drop (suc token) cells)) acts)

pub row_acts_or : (g : Grammar) (cells : List Action) (token : ℕ) (none : Action) (row : List RawCell) → token < length cells → raw_row g token (drop token cells) ≡ row → (get_or cells token none ≡ Refuse → ⊥) → has_cell_lines (lines.Cells row) ≡ true
row_acts_or g cells token none row lt same acts = row_acts g cells token (get_or cells token none) row lt (get_or_own_default cells token none lt) same acts

pub cells_stop : (g : Grammar) (raw : RawTable) (parts : List StateParts) (n : ℕ) (p : StateParts) → n < length parts → p ≡ slice_index_or parts n p → ((s : ℕ) → s < n → (raw_state raw s).cells ≡ raw_cells g (slice_index_or parts s no_state)) → ((raw_state raw n).cells ≡ raw_cells g p → ⊥) → AreFirstCells g raw parts n
cells_stop g raw parts n p lt e each none = record { within = omega (arith, lt); each = each; wrong = λ _ told. none (subst (λ (q : StateParts). (raw_state raw n).cells ≡ raw_cells g q) (get_or_default parts n no_state p lt ∙ sym e) told) }
