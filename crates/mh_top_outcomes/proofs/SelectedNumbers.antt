-- Proves, as a double negation, that there is a rising list of the numbers with a property, if all are below a limit.
use Rattle.std.proofs.Common.{ℕ, zero, suc, ◌+◌, ◌<◌, ◌≤◌, ◌↔◌, inl, inr, List, [], ◌∷◌, subst, arith}
use Rattle.std.specs.List.{Contains, AllByRecursion}
use Rattle.std.proofs.lemmas.Bool.{cases_eq}
use Rattle.mh_grammar.specs.Edges.{IsRising}
use Rattle.mh_grammar.proofs.Lists.{contains_here, contains_there}
use Rattle.mh_grammar.specs.NotLacking.{NotLacking}
use Rattle.mh_grammar.proofs.NotLacking.{given, chain, select}

numbers_from : ℕ → ℕ → List ℕ
numbers_from z zero = []
numbers_from z (suc n) = z ∷ numbers_from (suc z) n

number_in : (z n y : ℕ) → z ≤ y → y < z + n → Contains (numbers_from z n) y
unfolding numbers_from
number_in z zero y le lt = absurd (omega arith)
number_in z (suc n) y le lt = elim (cases_eq z y) [
  | inl e ↦ subst (λ (k : ℕ). Contains (z ∷ numbers_from (suc z) n) k) e (contains_here z (numbers_from (suc z) n))
  | inr d ↦ contains_there z (numbers_from (suc z) n) y (number_in (suc z) n y (omega (arith, d)) (omega arith))
]

numbers_above : (z n y : ℕ) → y < z → AllByRecursion (λ k. y < k) (numbers_from z n)
unfolding numbers_from
numbers_above z zero y l = tt
numbers_above z (suc n) y l = (l, numbers_above (suc z) n y (omega arith))

numbers_rising : (z n : ℕ) → IsRising (λ y k. y < k) (numbers_from z n)
unfolding numbers_from
numbers_rising z zero = tt
numbers_rising z (suc n) = (numbers_above (suc z) n z (omega arith), numbers_rising (suc z) n)

pub selected_numbers : (P : ℕ → Type 0) (n : ℕ) → ((k : ℕ) → P k → k < n) → NotLacking ((ks : List ℕ) × IsRising (λ y k. y < k) ks × ((k : ℕ) → Contains ks k ↔ P k))
selected_numbers P n below = chain (select (λ y k. y < k) P (numbers_from 0 n)) (λ s. given (
  s.xs,
  s.rising (numbers_rising 0 n),
  λ k. (s.each k, λ p. s.all k (number_in 0 n k (omega arith) (let l = below k p in omega arith)) p),
))
