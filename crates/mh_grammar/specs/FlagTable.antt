-- A table of flags, stored row by row.
use Rattle.std.specs.Prelude.{◌≡◌, ◌<◌, ◌+◌, ◌*◌, ◌⊎◌, ℕ, Bool, true, false, not, List, slice_index_or, count_by, length}

abbrev pub flag : ℕ → List Bool → ℕ → ℕ → Bool
flag width flags row column = slice_index_or flags (row * width + column) false

-- The table keeps its length. If `grown` is false, the table has not changed; if `grown` is true, fewer flags are
-- unset.
pub record Grows (old new : List Bool) (grown : Bool) : Type 0 where
  pub len : length new ≡ length old
  pub same : grown ≡ false → new ≡ old
  pub fewer : grown ≡ true → count_by not new < count_by not old

-- The flag was set before; or its row is `to`, and the flag of its column was set in the row `from`.
abbrev pub IsKeptOrCopied : ℕ → List Bool → ℕ → ℕ → ℕ → ℕ → Type 0
IsKeptOrCopied width old to from row column = (flag width old row column ≡ true) ⊎ ((row ≡ to) × (flag width old from column ≡ true))
