-- The value of an overlay.
use Rattle.std.specs.Prelude.{ℕ, List}

-- An overlay is a stack whose lowest states are shared with another stack. `base` has the states of that other stack;
-- `stack` has all states of the overlay, the shared states included.
pub record Overlaid : Type 0 where
  pub base : List ℕ
  pub stack : List ℕ
