-- Finds the first number below a limit for which a decided property holds.
use Rattle.std.proofs.Common.{ℕ, zero, suc, ◌<◌, ◌⊎◌, inl, inr, arith, below_more}

-- The type has a value, or has none.
abbrev pub Decided : Type 0 → Type 0
Decided A = A ⊎ (A → ⊥)

-- The property holds for this number and for no number before it.
pub record First (P : ℕ → Type 0) (m : ℕ) : Type 0 where
  pub at : ℕ
  pub within : at < m
  pub holds : P at
  pub before : (k : ℕ) → k < at → P k → ⊥

module _ (P : ℕ → Type 0) (decided : (k : ℕ) → Decided (P k)) where
  pub first : (m : ℕ) → First P m ⊎ ((k : ℕ) → k < m → P k → ⊥)
  first zero = inr (λ k l h. omega arith)
  first (suc m) = step (first m) (decided m)
    where
      step : First P m ⊎ ((k : ℕ) → k < m → P k → ⊥) → Decided (P m) → First P (suc m) ⊎ ((k : ℕ) → k < suc m → P k → ⊥)
      step (inl f) d = inl (record { at = f.at; within = (let l = f.within in omega arith); holds = f.holds; before = f.before })
      step (inr none) (inl h) = inl (record { at = m; within = omega arith; holds = h; before = none })
      step (inr none) (inr not) = inr (λ k l. below_more (λ j. P j → ⊥) m none not k (omega arith))
