-- Lemmas on sums over the numbers below a bound, and on decisions as numbers.
use Rattle.std.proofs.Common.{◌⊎◌, ◌+◌, ◌<◌, ◌≤◌, ℕ, zero, suc, arith, inl, inr}
use Rattle.std.proofs.lemmas.Bool.{cases_eq}

pub sum_below : ℕ → (ℕ → ℕ) → ℕ
sum_below zero f = 0
sum_below (suc n) f = f n + sum_below n f

pub sum_le : (n : ℕ) (f h : ℕ → ℕ) → ((i : ℕ) → i < n → f i ≤ h i) → sum_below n f ≤ sum_below n h
unfolding sum_below
sum_le zero f h le = omega arith
sum_le (suc n) f h le = omega (arith, le n (omega arith), sum_le n f h (λ i l. le i (omega arith)))

-- If two sums are equal and one dominates the other term by term, their terms are equal.
pub sum_same : (n : ℕ) (f h : ℕ → ℕ) → ((i : ℕ) → i < n → f i ≤ h i) → sum_below n h ≤ sum_below n f → (i : ℕ) → i < n → h i ≤ f i
unfolding sum_below
sum_same zero f h le s i l = absurd (omega arith)
sum_same (suc n) f h le s i l =
    let last = le n (omega arith) in
    let before = sum_le n f h (λ j k. le j (omega arith)) in
    let rest : sum_below n h ≤ sum_below n f = omega arith in
    let here : h n ≤ f n = omega arith in
    elim (cases_eq i n) [
      | inl e ↦ rw e here
      | inr e ↦ sum_same n f h (λ j k. le j (omega arith)) rest i (omega arith)
    ]

-- The number 1 if the property is true, and 0 if it is false.
pub bit : {A : Type 0} → A ⊎ (A → ⊥) → ℕ
bit (inl a) = 1
bit (inr n) = 0

pub bit_le : {A B : Type 0} (x : A ⊎ (A → ⊥)) (y : B ⊎ (B → ⊥)) → (A → B) → bit x ≤ bit y
unfolding bit
bit_le (inl a) (inl b) f = omega arith
bit_le (inl a) (inr n) f = absurd (n (f a))
bit_le (inr n) y f = omega arith

pub bit_back : {A B : Type 0} (x : A ⊎ (A → ⊥)) (y : B ⊎ (B → ⊥)) → bit y ≤ bit x → B → A
unfolding bit
bit_back (inl a) y l b = a
bit_back (inr n) (inl b) l c = absurd (omega arith)
bit_back (inr n) (inr m) l c = absurd (m c)

pub bit_one : {A : Type 0} (x : A ⊎ (A → ⊥)) → bit x ≤ 1
unfolding bit
bit_one (inl a) = omega arith
bit_one (inr n) = omega arith
