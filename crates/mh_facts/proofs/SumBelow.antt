-- Lemmas on sums over the numbers below a limit. Such sums count the keys without a value; one more entry lowers the
-- count.
use Rattle.std.proofs.Common.{◌≡◌, ℕ, zero, suc, ◌+◌, ◌<◌, ◌≤◌, inl, inr, List, [], ◌∷◌, ◌++◌, Some, None, Option, Bool, refl, arith}
use Rattle.std.proofs.lemmas.Bool.{cases_lt}
use Rattle.std.specs.Prelude.{◌^◌}
use Rattle.std.specs.Map.{lookup}
use Rattle.mh_facts.proofs.AssociationLists.{AreKeys, at_kept, at_last}

-- The sum of a function over the numbers below n.
unfoldable pub sum_below : ℕ → (ℕ → ℕ) → ℕ
sum_below zero f = 0
sum_below (suc n) f = f n + sum_below n f

pub total_le : (n : ℕ) (f g : ℕ → ℕ) → ((k : ℕ) → f k ≤ g k) → sum_below n f ≤ sum_below n g
unfolding sum_below
total_le zero f g h = omega arith
total_le (suc n) f g h = let a = total_le n f g h in let b = h n in omega arith

pub total_less : (n j : ℕ) (f g : ℕ → ℕ) → ((k : ℕ) → f k ≤ g k) → j < n → f j < g j → sum_below n f < sum_below n g
unfolding sum_below
total_less zero j f g h lt less = absurd (omega arith)
total_less (suc n) j f g h lt less = elim (cases_lt j n) [
  | inl below ↦ (let a = total_less n j f g h below less in let b = h n in omega arith)
  | inr is ↦ (let e : j ≡ n = omega arith in let l : f n < g n = rw (← e) less in let a = total_le n f g h in omega arith)
]

-- 1 if a key has no value, else 0.
unfoldable pub one_if_absent : {V : Type 0} → Option V → ℕ
one_if_absent None = 1
one_if_absent (Some v) = 0

bit_one : {V : Type 0} (o : Option V) → one_if_absent o ≤ 1
unfolding one_if_absent
bit_one None = omega arith
bit_one (Some v) = omega arith

module _ {K V : Type 0} {same : K → K → Bool} (keys : AreKeys same) (a : List (K × V)) (k : K) (v : V) where
  pub bit_le : (q : K) → one_if_absent (lookup (same q) (a ++ (k, v) ∷ [])) ≤ one_if_absent (lookup (same q) a)
  unfolding one_if_absent
  bit_le q = by (lookup (same q) a) refl
    where
      by : (o : Option V) → lookup (same q) a ≡ o → one_if_absent (lookup (same q) (a ++ (k, v) ∷ [])) ≤ one_if_absent (lookup (same q) a)
      by None e = rw e (bit_one (lookup (same q) (a ++ (k, v) ∷ [])))
      by (Some u) e = let there : lookup (same q) (a ++ (k, v) ∷ []) ≡ Some u = at_kept keys a k q v u e in rw (there, e) (omega arith)

  pub bit_less : lookup (same k) a ≡ None → one_if_absent (lookup (same k) (a ++ (k, v) ∷ [])) < one_if_absent (lookup (same k) a)
  unfolding one_if_absent
  bit_less fresh = rw (at_last keys a k v fresh, fresh) (omega arith)

-- The numbers of values of 32 bits and of 16 bits.
abbrev pub wide : ℕ
wide = 2 ^ 32

abbrev pub narrow : ℕ
narrow = 2 ^ 16
