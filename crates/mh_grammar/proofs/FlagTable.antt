-- Lemmas on how a table of flags grows: by one flag, by two changes in sequence, and by adding one row to another.
use Rattle.std.proofs.Common.{◌≡◌, ℕ, ◌+◌, ◌*◌, ◌<◌, ◌≤◌, ◌⊎◌, ◌||◌, Bool, true, false, not, List, length, get_or, set, count_by, refl, sym, ap, ◌∙◌, arith, inl, inr, get_or-set_other, get_or-set_same}
use Rattle.std.proofs.lemmas.Bool.{cases_eq}
use Rattle.std.proofs.lemmas.Nat.{same_from_place}
use Rattle.mh_grammar.specs.FlagTable.{flag, Grows, IsKeptOrCopied}

pub kept-set : (flags : List Bool) (i j : ℕ) → i < length flags → get_or flags j false ≡ true → get_or (set flags i true) j false ≡ true
kept-set flags i j l e = elim (cases_eq j i) [ inl same ↦ rw same (get_or-set_same flags i true false l) | inr other ↦ get_or-set_other flags i j true false other ∙ e ]

pub set-cases : (flags : List Bool) (i j : ℕ) → get_or (set flags i true) j false ≡ true → (get_or flags j false ≡ true) ⊎ (j ≡ i)
set-cases flags i j e = elim (cases_eq j i) [ inl same ↦ inr same | inr other ↦ inl (sym (get_or-set_other flags i j true false other) ∙ e) ]

pub Grows-refl : (a : List Bool) → Grows a a false
Grows-refl a = record { len = refl; same = λ _. refl; fewer = λ e. cc }

not_more : (g : Bool) (a b : List Bool) → Grows a b g → count_by not b ≤ count_by not a
not_more true a b h = omega (arith, h.fewer refl)
not_more false a b h = let e = ap (count_by not) (h.same refl) in omega arith

-- If a table grows into a second one, and this one into a third, then the first table grows into the third; some flag
-- is new if one was in either step.
pub Grows-trans : (a b c : List Bool) (g h : Bool) → Grows a b g → Grows b c h → Grows a c (g || h)
Grows-trans a b c true true p q = let le = not_more true b c q in let le' = not_more true a b p in record { len = q.len ∙ p.len; same = λ e. cc; fewer = λ e. omega (arith, q.fewer refl) }
Grows-trans a b c false true p q = let le' = not_more false a b p in record { len = q.len ∙ p.len; same = λ e. cc; fewer = λ e. omega (arith, q.fewer refl) }
Grows-trans a b c true false p q = let le = not_more false b c q in record { len = q.len ∙ p.len; same = λ e. cc; fewer = λ e. omega (arith, p.fewer refl) }
Grows-trans a b c false false p q = record { len = q.len ∙ p.len; same = λ e. q.same refl ∙ p.same refl; fewer = λ e. cc }

-- The invariant of the loop that adds the row `from` to the row `to`: `upto` columns were added.
pub record RowAdded (width : ℕ) (old new : List Bool) (to from : ℕ) (grown : Bool) (upto : ℕ) : Type 0 where
  pub grows : Grows old new grown
  pub kept : (i : ℕ) → get_or old i false ≡ true → get_or new i false ≡ true
  pub origin : (row column : ℕ) → column < width → flag width new row column ≡ true → IsKeptOrCopied width old to from row column
  pub done : (column : ℕ) → column < upto → flag width old from column ≡ true → flag width new to column ≡ true

pub RowAdded-start : (width : ℕ) (old : List Bool) (to from : ℕ) → RowAdded width old old to from false 0
RowAdded-start width old to from = record { grows = Grows-refl old; kept = λ i e. e; origin = λ row column l e. inl e; done = λ column l e. absurd (omega arith) }

module _ (width : ℕ) (old new : List Bool) (to from : ℕ) (grown : Bool) (c : ℕ) (within : c < width) (h : RowAdded width old new to from grown c) where
  pub RowAdded-skip : flag width new from c ≡ false → RowAdded width old new to from grown (c + 1)
  RowAdded-skip e = record {
    grows = h.grows;
    kept = h.kept;
    origin = h.origin;
    done = λ column l f. elim (cases_eq column c) [ inl same ↦ (let one = h.kept (from * width + column) f in cc) | inr other ↦ h.done column (omega arith) f ];
  }

  was : (row column : ℕ) → column < width → IsKeptOrCopied width old to from from column → flag width old from column ≡ true
  was row column l (inl e) = e
  was row column l (inr e) = e.1

  pub RowAdded-set : (more : Bool) → to * width + width ≤ length new → Grows new (set new (to * width + c) true) more → flag width new from c ≡ true → RowAdded width old (set new (to * width + c) true) to from (grown || more) (c + 1)
  RowAdded-set more fits g e = record {
    grows = Grows-trans old new (set new (to * width + c) true) grown more h.grows g;
    kept = λ i f. kept-set new (to * width + c) i (omega arith) (h.kept i f);
    origin = λ row column l f. elim (set-cases new (to * width + c) (row * width + column) f) [
      | inl before ↦ h.origin row column l before
      | inr here ↦ (let at = same_from_place row column to c width l within here in inr (at.0, rw at.1 (was row c within (h.origin from c within e))))
    ];
    done = λ column l f. elim (cases_eq column c) [
      | inl same ↦ rw same (get_or-set_same new (to * width + c) true false (omega arith))
      | inr other ↦ kept-set new (to * width + c) (to * width + column) (omega arith) (h.done column (omega arith) f)
    ];
  }
