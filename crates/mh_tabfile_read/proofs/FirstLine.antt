-- Lemmas on the first byte at which a list is split.
use Rattle.std.specs.Prelude.{◌==◌, slice_index}
use Rattle.std.proofs.Common.{◌≡◌, ◌<◌, ◌+◌, ℕ, zero, suc, Bool, true, false, List, [], ◌∷◌, length, take, drop, refl, sym, ap, ◌∙◌, arith}
use Rattle.std.specs.List.{slice_split, onto_first}
use Rattle.std.proofs.lemmas.List.Splits.{slice_split-cons_yes, slice_split-cons_no}

other : (b : Bool) → (b ≡ true → ⊥) → b ≡ false
other true h = absurd (h refl)
other false h = refl

module _ (c : ℕ) where
  pub split_first : (xs : List ℕ) (at : ℕ) → at < length xs → ((k : ℕ) → k < at → (slice_index xs k == c) ≡ true → ⊥) → (slice_index xs at == c) ≡ true → slice_split (λ b. b == c) xs ≡ take at xs ∷ slice_split (λ b. b == c) (drop (at + 1) xs)
  split_first [] at lt none here = absurd (omega (arith, lt))
  split_first (x ∷ xs) zero lt none here = slice_split-cons_yes (λ b. b == c) x xs here
  split_first (x ∷ xs) (suc at) lt none here =
      let next : suc at + 1 ≡ suc (at + 1) = omega arith in
      let later = split_first xs at (omega (arith, lt)) (λ k l e. none (suc k) (omega (arith, l)) e) here in
      slice_split-cons_no (λ b. b == c) x xs (other (x == c) (none 0 (omega arith))) ∙ ap (onto_first x) later ∙ ap (λ n. (x ∷ take at xs) ∷ slice_split (λ b. b == c) (drop n (x ∷ xs))) (sym next)

  pub split_none : (xs : List ℕ) → ((k : ℕ) → k < length xs → (slice_index xs k == c) ≡ true → ⊥) → slice_split (λ b. b == c) xs ≡ xs ∷ []
  split_none [] none = refl
  split_none (x ∷ xs) none = slice_split-cons_no (λ b. b == c) x xs (other (x == c) (none 0 (omega arith))) ∙ ap (onto_first x) (split_none xs (λ k l e. none (suc k) (omega (arith, l)) e))
