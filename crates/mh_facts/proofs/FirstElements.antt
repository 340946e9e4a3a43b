-- Lemmas on a property of one of the first n elements of a list.
use Rattle.std.proofs.Common.{◌≡◌, ℕ, ◌<◌, ◌+◌, ◌⊎◌, inl, inr, List, length, sym, arith, ◌∙◌, get_or}
use Rattle.std.specs.List.{Contains}
use Rattle.std.proofs.lemmas.Bool.{cases_lt}
use Rattle.std.proofs.lemmas.List.{get_or_default}

-- One of the first n elements of the list has the property P.
abbrev pub OfFirst : {X : Type 0} → (X → Type 0) → List X → ℕ → Type 0
OfFirst {X} P xs n = (p : X) × (k : ℕ) × (k < n) × (get_or xs k p ≡ p) × P p

module _ {X : Type 0} (P : X → Type 0) (xs : List X) where
  pub of_none : OfFirst P xs 0 → ⊥
  of_none h = let l = h.2 in omega arith

  pub of_more : (n : ℕ) (x : X) → get_or xs n x ≡ x → OfFirst P xs n ⊎ P x → OfFirst P xs (n + 1)
  of_more n x is (inl h) = (h.0, h.1, (let l = h.2 in omega arith), h.3, h.4)
  of_more n x is (inr r) = (x, n, omega arith, is, r)

  pub of_fewer : (n : ℕ) (x : X) → n < length xs → get_or xs n x ≡ x → OfFirst P xs (n + 1) → OfFirst P xs n ⊎ P x
  of_fewer n x lt is h = elim (cases_lt h.1 n) [
    | inl less ↦ inl (h.0, h.1, less, h.3, h.4)
    | inr le ↦ inr (
        let e : h.1 ≡ n = (let l = h.2 in omega arith) in
        let there : get_or xs n h.0 ≡ h.0 = rw e at h.3 in
        let one : h.0 ≡ x = sym there ∙ get_or_default xs n h.0 x lt ∙ is in
        rw one at h.4)
  ]

  pub of_all : (n : ℕ) → n ≡ length xs → OfFirst P xs n → (x : X) × Contains xs x × P x
  of_all n e h = (h.0, (h.1, (let l = h.2 in omega arith), h.3), h.4)

  pub of_some : (n : ℕ) → n ≡ length xs → (x : X) × Contains xs x × P x → OfFirst P xs n
  of_some n e h = (h.0, (h.1).0, (let l = (h.1).1 in omega arith), (h.1).2, h.2)
