-- The definition of a branch by its history: its position is that of a new run of its start on all its tokens, after as
-- many steps as the branch was resumed. The definition is this project's own.
use Rattle.std.specs.Prelude.{◌≡◌, ◌<◌, ℕ, zero, suc, Bool, false, List, ◌++◌, ◌∷◌, []}
use Rattle.mh_tables_core.specs.Table.{TableData}
use Rattle.mh_tables_core.specs.Run.{Config, initial, after, run_move_of, top_of}
use Rattle.mh_tables_core.specs.RunTrees.{trees_after}
use Rattle.mh_engine.specs.Positions.{Position}
use Rattle.mh_engine.specs.Phases.{phase_of, CanResume}
use Rattle.mh_engine.specs.Steps.{is_refusal}

-- The number of a start, the tokens offered so far, and the number of resumes.
pub record Branch : Type 0 where
  pub start : ℕ
  pub offered : List ℕ
  pub resumes : ℕ

abbrev pub new_branch : ℕ → Branch
new_branch start = record { start = start; offered = []; resumes = 0 }

abbrev pub with_token : Branch → ℕ → Branch
with_token b z = record { start = b.start; offered = b.offered ++ z ∷ []; resumes = b.resumes }

abbrev pub with_step : Branch → Branch
with_step b = record { start = b.start; offered = b.offered; resumes = suc b.resumes }

-- Whether the last of n steps from a configuration was a refusal; a refusal counts as a step.
abbrev pub was_refusal : TableData → ℕ → Config → Bool
was_refusal t zero c = false
was_refusal t (suc n) c = let last = after t n c in is_refusal (run_move_of t (top_of last.stack) last.left)

-- The position, with its trees, of the run of a start on the tokens w after n steps.
abbrev pub run_position : TableData → ℕ → List ℕ → ℕ → Position
run_position t start w n =
    let run = after t n (initial start w) in
    record { table = t; pairs = record { states = run.stack; trees = trees_after t n (initial start w) [] }; left = run.left; refused = was_refusal t n (initial start w) }

abbrev pub position_of : TableData → Branch → Position
position_of t b = run_position t b.start b.offered b.resumes

-- Each resume of the branch is a step of its run.
abbrev pub AreSteps : TableData → Branch → Type 0
AreSteps t b = (n : ℕ) → n < b.resumes → CanResume (phase_of (run_position t b.start b.offered n))

-- The position c is the position of the branch b, and each resume of b is a step of the run.
pub record HasPosition (b : Branch) (c : Position) : Type 0 where
  pub made : AreSteps c.table b
  pub position : c ≡ position_of c.table b
