-- The productions that a run has reduced since its last shift (this project's own definition, after Pottier 2016).
use Rattle.std.specs.Prelude.{◌≡◌, ℕ, zero, suc, List, [], ◌∷◌, ◌++◌}
use Rattle.mh_tables_core.specs.Table.{TableData}
use Rattle.mh_tables_core.specs.Run.{Config, RunMove, Accepts, Asks, Refuses, Shifts, Reduces, Ending, Ends, initial, run_move_of, top_of, step, next_of, after}

-- The productions reduced since the last shift, after one more move.
abbrev pub since_move : RunMove → List ℕ → List ℕ
since_move Accepts ps = ps
since_move Asks ps = ps
since_move Refuses ps = ps
since_move (Shifts j) ps = []
since_move (Reduces p) ps = ps ++ p ∷ []

-- The productions reduced since the last shift, after n more steps, in order.
abbrev pub reduced_since : TableData → ℕ → Config → List ℕ → List ℕ
reduced_since t zero c ps = ps
reduced_since t (suc n) c ps = reduced_since t n (next_of c (step t c)) (since_move (run_move_of t (top_of c.stack) c.left) ps)

-- The run on w from the start symbol ends in this way, and ps are the productions reduced since its last shift.
pub record TraceOf (t : TableData) (start : ℕ) (w : List ℕ) (how : Ending) (ps : List ℕ) : Type 0 where
  pub steps : ℕ
  pub ends : step t (after t steps (initial start w)) ≡ Ends how
  pub reduced : reduced_since t steps (initial start w) [] ≡ ps
