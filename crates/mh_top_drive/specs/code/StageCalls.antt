-- The result of the code of a stage, compared with the definition of the stage.
use Rattle.std.specs.Prelude.{◌≡◌, ℕ, ◌≤◌, List, Result, Ok, Err, Vec, ⊤}
use Rattle.std.specs.declared.alloc.Global.{Global}
use Rattle.mh_outside.specs.Faults.{HasRisen}
use Rattle.mh_grammar.specs.Text.{Text}
use Rattle.mh_top_drive.specs.StageResults.{StageResult, Go, Halt}
use Rattle.mh_top_drive.specs.declared.stop.Cause.{Cause}
use Rattle.mh_top_drive.specs.declared.stop.Stop.{Stop}
use Rattle.mh_top_drive.specs.declared.stop.Stop.TheVariants.{Halted, ShelfFailed, InputFailed, WriteFailed, OutOfMemory}

-- The work stops with this cause, or memory ran out.
abbrev pub StopsWith : Cause → Stop → Type 0
StopsWith cause (Halted given) = given ≡ cause
StopsWith cause OutOfMemory = ⊤
StopsWith cause _ = ⊥

-- The work stops because the shelf (the device that gives the files) failed while this file was read, or because memory
-- ran out.
abbrev pub ShelfFailsAt : Text → Stop → Type 0
ShelfFailsAt name (ShelfFailed given) = given ≡ name
ShelfFailsAt name OutOfMemory = ⊤
ShelfFailsAt name _ = ⊥

-- The result of the code is one that the definition of the stage allows (`Has`). Two more results are possible: memory
-- ran out, or the shelf failed at a file that was next to be read (`Names`).
abbrev pub FileStageGives : {A : Type 0} → (StageResult A → Type 0) → (Text → Type 0) → Result A Stop → Type 0
FileStageGives Has Names (Ok x) = Has (Go x)
FileStageGives Has Names (Err (Halted cause)) = Has (Halt cause)
FileStageGives Has Names (Err (ShelfFailed name)) = Names name
FileStageGives Has Names (Err OutOfMemory) = ⊤
FileStageGives Has Names (Err _) = ⊥

-- The result of the code is one that the definition of the stage allows, or memory ran out. The stage reads no file.
abbrev pub StageGives : {A : Type 0} → (StageResult A → Type 0) → Result A Stop → Type 0
StageGives Has result = FileStageGives Has (λ name. ⊥) result

-- The result of a stage with its vector seen as a list.
abbrev pub list_result : {A : Type 0} → Result (Vec A Global) Stop → Result (List A) Stop
list_result (Ok v) = Ok v.items
list_result (Err stop) = Err stop

-- The shelf's counts of faults before and after a stage that reads files: the count rose if the shelf failed, and is
-- unchanged otherwise, except that it may have risen where memory ran out.
abbrev pub StageShelfCounts : {A : Type 0} → ℕ → ℕ → Result A Stop → Type 0
StageShelfCounts before now (Err (ShelfFailed name)) = (before ≤ now) × HasRisen before now
StageShelfCounts before now (Err OutOfMemory) = before ≤ now
StageShelfCounts before now (Err InputFailed) = ⊥
StageShelfCounts before now (Err WriteFailed) = ⊥
StageShelfCounts before now _ = now ≡ before
