-- The definition of the phase of a position: what the run does next (Menhir manual, incremental API).
use Rattle.std.specs.Prelude.{ℕ, Bool, true, false, List, [], ◌∷◌}
use Rattle.mh_tables_core.specs.Run.{RunMove, Accepts, Asks, Refuses, Shifts, Reduces, run_move_of, top_of}
use Rattle.mh_engine.specs.Positions.{Position}
use Rattle.mh_engine.specs.declared.phase.Phase.{Phase}
use Rattle.mh_engine.specs.declared.phase.Phase.TheVariants as phases

-- The next move of the run.
abbrev pub next_move : Position → RunMove
next_move c = run_move_of c.table (top_of c.pairs.states) c.left

abbrev pub first_of : List ℕ → ℕ
first_of [] = 0
first_of (z ∷ left) = z

-- The phase for the next move, the top state and the tokens to come.
abbrev pub phase_by : RunMove → ℕ → List ℕ → Phase
phase_by Accepts s left = phases.Accepted
phase_by Asks s left = phases.InputNeeded s
phase_by Refuses s left = phases.HandlingError s
phase_by (Shifts j) s left = phases.Shifting s (first_of left)
phase_by (Reduces p) s left = phases.AboutToReduce s p

abbrev pub phase_if_refused : Bool → Position → Phase
phase_if_refused true c = phases.Rejected
phase_if_refused false c = phase_by (next_move c) (top_of c.pairs.states) c.left

unfoldable pub phase_of : Position → Phase
phase_of c = phase_if_refused c.refused c

-- In this phase a token may be offered.
abbrev pub CanOffer : Phase → Type 0
CanOffer (phases.InputNeeded s) = Unit {0}
CanOffer (phases.Shifting s z) = ⊥
CanOffer (phases.AboutToReduce s p) = ⊥
CanOffer (phases.HandlingError s) = ⊥
CanOffer phases.Accepted = ⊥
CanOffer phases.Rejected = ⊥

-- In this phase the run may be resumed.
abbrev pub CanResume : Phase → Type 0
CanResume (phases.InputNeeded s) = ⊥
CanResume (phases.Shifting s z) = Unit {0}
CanResume (phases.AboutToReduce s p) = Unit {0}
CanResume (phases.HandlingError s) = Unit {0}
CanResume phases.Accepted = ⊥
CanResume phases.Rejected = ⊥
