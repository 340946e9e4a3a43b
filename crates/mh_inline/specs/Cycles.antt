-- Inline instances that reach themselves (Menhir manual, `%inline`).
use Rattle.std.specs.Prelude.{◌<◌, ℕ}
use Rattle.mh_rules.specs.declared.instances.Expanded.{Expanded}
use Rattle.mh_inline_unfold.specs.Instances.{Reaches}

-- The inline instance n reaches itself through inline instances.
abbrev pub IsCyclic : Expanded → ℕ → Type 0
IsCyclic e n = Reaches e.instances n n

-- The instance n is the first that reaches itself.
pub record IsFirstCyclicAt (e : Expanded) (n : ℕ) : Type 0 where
  pub cyclic : IsCyclic e n
  pub first : (m : ℕ) → m < n → IsCyclic e m → ⊥

abbrev pub HasNoCycle : Expanded → Type 0
HasNoCycle e = (n : ℕ) → IsCyclic e n → ⊥
