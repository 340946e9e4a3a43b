-- Proves that runs with observers are runs, and that one observer collects the productions since the last shift.
use Rattle.std.proofs.Common.{◌≡◌, ℕ, zero, suc, List, [], ◌∷◌, ◌++◌, refl, ap, sym, ◌∙◌}
use Rattle.mh_tables_core.specs.Table.{TableData}
use Rattle.mh_tables_core.specs.Run.{Config, RunMove, Accepts, Asks, Refuses, Shifts, Reduces, run_move_of, top_of, step, next_of, initial, Ending, VerdictOf}
use Rattle.mh_tables_core.proofs.Reductions.{no_shift_at_end}
use Rattle.mh_run.specs.code.Observers.{Observer, observed, observed_after, RunsObserved}
use Rattle.mh_run.specs.Trace.{since_move, reduced_since, TraceOf}

-- A run with an observer is a run.
pub VerdictOf-observed : {S : Type 0} (f : Observer S) (t : TableData) (start : ℕ) (w : List ℕ) (first s : S) (how : Ending) → RunsObserved f t start w first how s → VerdictOf t start w how
VerdictOf-observed f t start w first s how r = (r.steps, r.ends)

-- The observer that collects the productions reduced since the last shift.
abbrev pub since_shift : Observer (List ℕ)
since_shift = record { shifted = λ ps z. []; reduced = λ ps m p. ps ++ p ∷ [] }

since_by : (t : TableData) (s : ℕ) (left : List ℕ) (m : RunMove) (ps : List ℕ) → run_move_of t s left ≡ m → observed since_shift t m left ps ≡ since_move m ps
since_by t s left Accepts ps e = refl
since_by t s left Asks ps e = refl
since_by t s left Refuses ps e = refl
since_by t s [] (Shifts j) ps e = absurd (no_shift_at_end t s j e)
since_by t s (z ∷ left) (Shifts j) ps e = refl
since_by t s left (Reduces p) ps e = refl

since_after : (t : TableData) (n : ℕ) (c : Config) (ps : List ℕ) → observed_after since_shift t n c ps ≡ reduced_since t n c ps
since_after t zero c ps = refl
since_after t (suc n) c ps =
    let m : RunMove = run_move_of t (top_of c.stack) c.left in
    ap (observed_after since_shift t n (next_of c (step t c))) (since_by t (top_of c.stack) c.left m ps refl) ∙ since_after t n (next_of c (step t c)) (since_move m ps)

pub TraceOf-observed : (t : TableData) (start : ℕ) (w ps : List ℕ) (how : Ending) → RunsObserved since_shift t start w [] how ps → TraceOf t start w how ps
TraceOf-observed t start w ps how r = record { steps = r.steps; ends = r.ends; reduced = sym (since_after t r.steps (initial start w) []) ∙ r.value }
