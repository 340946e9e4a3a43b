-- The holes of a state: cells that have raw actions of which none remains, as %nonassoc of the Menhir manual leaves
-- them. The word is this project's own.
use Rattle.std.specs.Prelude.{◌≡◌, ◌<◌, ℕ, Bool, false, List, length, slice_index_or, MatchBool}
use Rattle.mh_grammar.specs.declared.types.Look.TheVariants.{Token}
use Rattle.mh_resolve_cells.specs.States.{State, IsHoleOn}

-- Each token has a mark that says whether its cell is a hole.
pub record AreHoles (s : State) (holes : List Bool) : Type 0 where
  pub len : length holes ≡ length s.grammar.tokens
  pub each : (z : ℕ) → z < length s.grammar.tokens → MatchBool (slice_index_or holes z false) (IsHoleOn s (Token z)) (IsHoleOn s (Token z) → ⊥)
