-- Flags that are set.
use Rattle.std.specs.Prelude.{◌≡◌, ◌⊎◌, ◌↔◌, ℕ, Bool, true, false, List, length, slice_index_or}

-- The flag of each number that `Is` accepts is set, and the other flags are unchanged.
pub record Marks (Is : ℕ → Type 0) (old new : List Bool) : Type 0 where
  pub len : length new ≡ length old
  pub each : (i : ℕ) → (slice_index_or new i false ≡ true) ↔ ((slice_index_or old i false ≡ true) ⊎ Is i)

-- The flags of the numbers that `Is` accepts are set, and no others.
abbrev pub AreMarked : (ℕ → Type 0) → List Bool → Type 0
AreMarked Is flags = (i : ℕ) → (slice_index_or flags i false ≡ true) ↔ Is i

-- No flag is set.
abbrev pub AreUnset : List Bool → Type 0
AreUnset flags = (i : ℕ) → slice_index_or flags i false ≡ false
