-- The definition of feeding tokens to a branch: the run gets a token where it asks for one, and makes its shifts and
-- reductions. The definition is this project's own.
use Rattle.std.specs.Prelude.{◌≡◌, ◌+◌, ℕ, zero, suc, true, List, [], ◌∷◌, length}
use Rattle.mh_tables_core.specs.Table.{TableData}
use Rattle.mh_tables_core.specs.TooDeep.{too_deep}
use Rattle.mh_engine.specs.Branches.{Branch, position_of, with_token, with_step}
use Rattle.mh_engine.specs.Phases.{phase_of}
use Rattle.mh_engine.specs.declared.phase.Phase.{Phase}
use Rattle.mh_engine.specs.declared.phase.Phase.TheVariants as phases

-- A branch, and the tokens that are not offered to the branch yet.
pub record Feeding : Type 0 where
  pub branch : Branch
  pub waiting : List ℕ

abbrev pub feeding_of : Branch → List ℕ → Feeding
feeding_of b waiting = record { branch = b; waiting = waiting }

-- The first waiting token, if there is one, is offered.
abbrev pub with_offer : Branch → List ℕ → Feeding
with_offer b [] = feeding_of b []
with_offer b (z ∷ waiting) = feeding_of (with_token b z) waiting

-- The feeding after the next move, for a branch in this phase: an offer, if the run asks for a token; a step, if the
-- run shifts or reduces. A refusal and the end of the run leave the feeding as it is.
abbrev pub moved_in : Phase → Feeding → Feeding
moved_in (phases.InputNeeded s) f = with_offer f.branch f.waiting
moved_in (phases.Shifting s z) f = feeding_of (with_step f.branch) f.waiting
moved_in (phases.AboutToReduce s p) f = feeding_of (with_step f.branch) f.waiting
moved_in (phases.HandlingError s) f = f
moved_in phases.Accepted f = f
moved_in phases.Rejected f = f

-- The phase of the branch of a feeding.
abbrev pub phase_in : TableData → Feeding → Phase
phase_in t f = phase_of (position_of t f.branch)

-- The feeding after n moves.
abbrev pub after_moves : TableData → ℕ → Feeding → Feeding
after_moves t zero f = f
after_moves t (suc n) f = after_moves t n (moved_in (phase_in t f) f)

-- In this phase, with these tokens waiting, there is no move: the run asks for a token and none is waiting, a token is
-- refused, or the run has ended.
abbrev pub HasStopped : Phase → List ℕ → Type 0
HasStopped (phases.InputNeeded s) waiting = waiting ≡ []
HasStopped (phases.Shifting s z) waiting = ⊥
HasStopped (phases.AboutToReduce s p) waiting = ⊥
HasStopped (phases.HandlingError s) waiting = Unit {0}
HasStopped phases.Accepted waiting = Unit {0}
HasStopped phases.Rejected waiting = Unit {0}

-- Some move makes a stack that is too deep.
abbrev pub IsFedTooDeep : TableData → Branch → List ℕ → Type 0
IsFedTooDeep t b tokens = (n : ℕ) × (too_deep (position_of t (after_moves t n (feeding_of b tokens)).branch).pairs.trees ≡ true)

-- Feeding these tokens to the branch b ends with the branch `next`, and `shifted` of the tokens are shifted; no move is
-- too deep.
pub record IsFed (t : TableData) (b : Branch) (tokens : List ℕ) (next : Branch) (shifted : ℕ) : Type 0 where
  pub moves : ℕ
  pub reaches : (after_moves t moves (feeding_of b tokens)).branch ≡ next
  pub stops : HasStopped (phase_in t (after_moves t moves (feeding_of b tokens))) (after_moves t moves (feeding_of b tokens)).waiting
  -- Each token offered is shifted or is still to come.
  pub count : length b.offered + shifted + length (position_of t next).left ≡ length next.offered
  pub fits : IsFedTooDeep t b tokens → ⊥
