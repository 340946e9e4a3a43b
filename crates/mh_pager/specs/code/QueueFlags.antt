-- The queue of states, with a flag for each state that says whether the state is in the queue.
use Rattle.std.specs.Prelude.{◌≡◌, ◌↔◌, ℕ, Bool, List, Some, true, slice_get}
use Rattle.std.specs.List.{Contains}
use Rattle.mh_grammar.specs.Numbering.{AreDistinct}

-- No state is in the queue twice, and the flags of exactly the queued states are set.
pub record AreFlagged (states : List ℕ) (flags : List Bool) : Type 0 where
  pub distinct : AreDistinct states
  pub exact : (n : ℕ) → Contains states n ↔ (slice_get flags n ≡ Some true)
