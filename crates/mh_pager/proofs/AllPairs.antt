-- Lemmas on relations between the elements at equal indices of two lists, below an upper bound.
use Rattle.std.proofs.Common.{◌≡◌, ◌+◌, ◌<◌, ℕ, List, Some, sym, ap, ◌∙◌, arith, inl, inr}
use Rattle.std.specs.List.{slice_get}
use Rattle.std.proofs.lemmas.Bool.{cases_eq}

abbrev pub PairsBelow : {A : Type 0} → (A → A → Type 0) → List A → List A → ℕ → Type 0
PairsBelow {A} R xs ys n = (i : ℕ) (x y : A) → i < n → slice_get xs i ≡ Some x → slice_get ys i ≡ Some y → R x y

pub pairs_more : {A : Type 0} (R : A → A → Type 0) (xs ys : List A) (n : ℕ) (a b : A) → PairsBelow R xs ys n → slice_get xs n ≡ Some a → slice_get ys n ≡ Some b → R a b → PairsBelow R xs ys (n + 1)
pairs_more R xs ys n a b before at at' r i x y l e f = elim (cases_eq i n) [
  | inl s ↦ (
      let one : Some a ≡ Some x = sym at ∙ ap (slice_get xs) (sym s) ∙ e in
      let two : Some b ≡ Some y = sym at' ∙ ap (slice_get ys) (sym s) ∙ f in
      let same : a ≡ x = cc in
      let other : b ≡ y = cc in
      rw (← same, ← other) r)
  | inr s ↦ before i x y (omega arith) e f
]
