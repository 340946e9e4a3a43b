-- Definitions on the tokens that are tried on a stack.
use Rattle.std.specs.Prelude.{◌≡◌, ◌↔◌, ◌<◌, ◌^◌, ℕ, Bool, true, false, List, [], ◌∷◌, length, Option, Some}
use Rattle.std.specs.List.{Contains}
use Rattle.mh_grammar.specs.Edges.{IsRising}
use Rattle.mh_tables_core.specs.Table.{TableData}
use Rattle.mh_tables_core.specs.Run.{RunMove, Accepts, Asks, Refuses, Shifts, Reduces, initial, after, run_move_of, top_of}
use Rattle.mh_run.specs.code.Observers.{Observer}
use Rattle.mh_run.specs.code.Reductions.{SettlesTo}

-- The observer that records nothing.
abbrev pub null_observer : Observer (Unit {0})
null_observer = record { shifted = λ s z. s; reduced = λ s m p. s }

-- All reductions on the next token turn the old stack into the new stack, on which the next move is this one.
abbrev pub Settles : TableData → Option ℕ → List ℕ → List ℕ → RunMove → Type 0
Settles t look old new move = SettlesTo null_observer t look old new tt tt move

-- True if the move is a shift.
abbrev pub is_shift : RunMove → Bool
is_shift Accepts = false
is_shift Asks = false
is_shift Refuses = false
is_shift (Shifts j) = true
is_shift (Reduces p) = false

-- A token was tried on a stack: whether the run on the stack shifts the token, at once or after reductions.
pub record IsTried (t : TableData) (stack : List ℕ) (z : ℕ) (shifted : Bool) : Type 0 where
  pub new : List ℕ
  pub move : RunMove
  pub settles : Settles t (Some z) stack new move
  pub is : shifted ≡ is_shift move

-- All tokens below the bound were tried, and the list contains exactly those that are shifted, in rising order.
pub record AreTried (t : TableData) (stack list : List ℕ) (bound : ℕ) : Type 0 where
  pub rising : IsRising (λ y z. y < z) list
  pub below : (z : ℕ) → Contains list z → z < bound
  pub each : (z : ℕ) → z < bound → (shifted : Bool) × IsTried t stack z shifted × (Contains list z ↔ (shifted ≡ true))

-- The run of a start on some tokens reaches this stack and asks for one more token there.
pub record AsksOn (t : TableData) (start : ℕ) (tokens stack : List ℕ) : Type 0 where
  pub steps : ℕ
  pub read : ℕ
  pub reaches : after t steps (initial start tokens) ≡ record { stack = stack; read = read; left = [] }
  pub asks : run_move_of t (top_of stack) [] ≡ Asks
