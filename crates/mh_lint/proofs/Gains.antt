-- Lemmas on sets that gain what elements of a list give, one element after another.
use Rattle.std.proofs.Common.{◌≡◌, ◌↔◌, ◌⊎◌, ℕ, ◌+◌, ◌<◌, ◌≤◌, List, length, get_or, take, subst, sym, inl, inr}
use Rattle.std.specs.List.{Any, Contains}
use Rattle.std.proofs.lemmas.List.{take_all}
use Rattle.mh_grammar.proofs.Lists.{contains_none, take_step_cases, take_step_keeps, take_step_last}

-- The second set has the keys of the first, the keys that P accepts, and no others.
abbrev pub Gains : {K : Type 0} → (K → Type 0) → (K → Type 0) → (K → Type 0) → Type 0
Gains {K} P A B = (k : K) → B k ↔ (A k ⊎ P k)

module _ {K : Type 0} where
  pub gains_none : (P A : K → Type 0) → ((k : K) → P k → ⊥) → Gains P A A
  gains_none P A none k = (λ a. inl a, λ h. elim h [ inl a ↦ a | inr p ↦ absurd (none k p) ])

  pub gains_then : (P Q A B C : K → Type 0) → Gains P A B → Gains Q B C → Gains (λ k. P k ⊎ Q k) A C
  gains_then P Q A B C g h k = (
    λ c. elim ((h k).0 c) [ inl b ↦ elim ((g k).0 b) [ inl a ↦ inl a | inr p ↦ inr (inl p) ] | inr q ↦ inr (inr q) ],
    λ e. elim e [ inl a ↦ (h k).1 (inl ((g k).1 (inl a))) | inr e' ↦ elim e' [ inl p ↦ (h k).1 (inl ((g k).1 (inr p))) | inr q ↦ (h k).1 (inr q) ] ],
  )

  pub gains_same : (P Q A B : K → Type 0) → ((k : K) → P k → Q k) → ((k : K) → Q k → P k) → Gains P A B → Gains Q A B
  gains_same P Q A B pq qp g k = (
    λ b. elim ((g k).0 b) [ inl a ↦ inl a | inr p ↦ inr (pq k p) ],
    λ e. elim e [ inl a ↦ (g k).1 (inl a) | inr q ↦ (g k).1 (inr (qp k q)) ],
  )

-- An element that the list contains, with its property.
pub any_of : {X : Type 0} (P : X → Type 0) (xs : List X) (x : X) → Contains xs x → P x → Any P xs
any_of P xs x c p = (c.0, x, c.1, c.2, p)

pub of_any : {X : Type 0} (P : X → Type 0) (xs : List X) → Any P xs → (x : X) × Contains xs x × P x
of_any P xs a = (a.1, (a.0, a.2, a.3), a.4)

-- One of the first n elements of the list gives the key.
abbrev pub AnyOf : {X K : Type 0} → (X → K → Type 0) → List X → ℕ → K → Type 0
AnyOf P xs n k = Any (λ x. P x k) (take n xs)

module _ {X K : Type 0} (P : X → K → Type 0) (xs : List X) where
  pub any_none : (k : K) → AnyOf P xs 0 k → ⊥
  any_none k h = let one = of_any (λ x. P x k) (take 0 xs) h in contains_none one.0 one.1

  pub any_cases : (n : ℕ) (x : X) → n < length xs → x ≡ get_or xs n x → (k : K) → AnyOf P xs (n + 1) k → AnyOf P xs n k ⊎ P x k
  any_cases n x l at k h =
      let one = of_any (λ y. P y k) (take (n + 1) xs) h in
      elim (take_step_cases xs n x l at one.0 one.1) [
        | inl before ↦ inl (any_of (λ y. P y k) (take n xs) one.0 before one.2)
        | inr same ↦ inr (subst (λ y. P y k) (sym same) one.2)
      ]

  pub any_more : (n : ℕ) (x : X) → n < length xs → x ≡ get_or xs n x → (k : K) → AnyOf P xs n k ⊎ P x k → AnyOf P xs (n + 1) k
  any_more n x l at k (inl h) = let one = of_any (λ y. P y k) (take n xs) h in any_of (λ y. P y k) (take (n + 1) xs) one.0 (take_step_keeps xs n one.0 l one.1) one.2
  any_more n x l at k (inr p) = any_of (λ y. P y k) (take (n + 1) xs) x (take_step_last xs n x l at) p

  pub any_all : (n : ℕ) → length xs ≤ n → (k : K) → AnyOf P xs n k → Any (λ x. P x k) xs
  any_all n le k h = subst (λ ys. Any (λ x. P x k) ys) (take_all n xs le) h

  pub all_any : (n : ℕ) → length xs ≤ n → (k : K) → Any (λ x. P x k) xs → AnyOf P xs n k
  all_any n le k h = subst (λ ys. Any (λ x. P x k) ys) (sym (take_all n xs le)) h

  pub first_none : (A : K → Type 0) → Gains (AnyOf P xs 0) A A
  first_none A = gains_none (AnyOf P xs 0) A any_none

  -- Both sets are empty.
  pub first_empty : (A B : K → Type 0) → ((k : K) → A k → ⊥) → ((k : K) → B k → ⊥) → Gains (AnyOf P xs 0) A B
  first_empty A B no_a no_b k = (λ b. absurd (no_b k b), λ e. elim e [ inl a ↦ absurd (no_a k a) | inr h ↦ absurd (any_none k h) ])

  pub first_next : (n : ℕ) (x : X) (A B C : K → Type 0) → n < length xs → x ≡ get_or xs n x → Gains (AnyOf P xs n) A B → Gains (P x) B C → Gains (AnyOf P xs (n + 1)) A C
  first_next n x A B C l at g h = gains_same (λ k. AnyOf P xs n k ⊎ P x k) (AnyOf P xs (n + 1)) A C (any_more n x l at) (any_cases n x l at) (gains_then (AnyOf P xs n) (P x) A B C g h)

  pub first_all : (n : ℕ) (A B : K → Type 0) → length xs ≤ n → Gains (AnyOf P xs n) A B → Gains (λ k. Any (λ x. P x k) xs) A B
  first_all n A B le g = gains_same (AnyOf P xs n) (λ k. Any (λ x. P x k) xs) A B (any_all n le) (all_any n le) g
