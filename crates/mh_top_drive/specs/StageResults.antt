-- The result of a stage of the work, and stages in sequence. The stages lead from the words of the command line to the
-- mode. Each gives a value, or stops the work with a cause.
use Rattle.std.specs.Prelude.{◌≡◌}
use Rattle.mh_top_drive.specs.declared.stop.Cause.{Cause}

-- The result of a stage: `Go` with a value, or `Halt` with the cause for which the work stops.
pub data StageResult (A : Type 0) : Type 0 where
  Go : A → StageResult A
  Halt : Cause → StageResult A

-- The result of the stage `Next` after a stage with a given result: if the first stage stopped, the result is the same
-- stop.
abbrev pub AfterStage : {A B : Type 0} → StageResult A → (A → StageResult B → Type 0) → StageResult B → Type 0
AfterStage (Go x) Next s = Next x s
AfterStage (Halt cause) Next s = s ≡ Halt cause

-- The result of two stages in sequence: the second runs on the value of the first.
abbrev pub Then : {A B : Type 0} → (StageResult A → Type 0) → (A → StageResult B → Type 0) → StageResult B → Type 0
Then {A = A} First Next s = (first : StageResult A) × First first × AfterStage first Next s

-- The stage gives this value.
abbrev pub Gives : {A : Type 0} → A → StageResult A → Type 0
Gives x s = s ≡ Go x
