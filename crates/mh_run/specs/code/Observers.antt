-- Observers of runs: values that are updated at each shift and at each reduction.
use Rattle.std.specs.Prelude.{◌≡◌, ℕ, zero, suc, List, [], ◌∷◌, length}
use Rattle.mh_grammar.specs.Plain.{rhs_of}
use Rattle.mh_tables_core.specs.Table.{TableData}
use Rattle.mh_tables_core.specs.Run.{Config, RunMove, Accepts, Asks, Refuses, Shifts, Reduces, Ending, Ends, initial, run_move_of, top_of, step, next_of, after}

-- The functions that update a value at the shift of a token, and at the reduction of a production with the length of
-- its right side.
pub record Observer (S : Type 0) : Type 0 where
  pub shifted : S → ℕ → S
  pub reduced : S → ℕ → ℕ → S

-- The value after a move.
abbrev pub observed : {S : Type 0} → Observer S → TableData → RunMove → List ℕ → S → S
observed f t Accepts left s = s
observed f t Asks left s = s
observed f t Refuses left s = s
observed f t (Shifts j) [] s = s
observed f t (Shifts j) (z ∷ left) s = f.shifted s z
observed f t (Reduces p) left s = f.reduced s (length (rhs_of t.grammar p)) p

-- The value after n steps.
abbrev pub observed_after : {S : Type 0} → Observer S → TableData → ℕ → Config → S → S
observed_after f t zero c s = s
observed_after f t (suc n) c s = observed_after f t n (next_of c (step t c)) (observed f t (run_move_of t (top_of c.stack) c.left) c.left s)

-- The run on w from the start symbol ends in this way, and leaves the value s.
pub record RunsObserved {S : Type 0} (f : Observer S) (t : TableData) (start : ℕ) (w : List ℕ) (first : S) (how : Ending) (s : S) : Type 0 where
  pub steps : ℕ
  pub ends : step t (after t steps (initial start w)) ≡ Ends how
  pub value : observed_after f t steps (initial start w) first ≡ s
