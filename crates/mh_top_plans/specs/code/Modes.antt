-- The contracts of the calls that open the mode of a job and run it.
use Rattle.std.specs.Prelude.{◌≡◌, ◌≤◌, ◌⊎◌, ℕ, Option, Result, Ok, Err, ⊤}
use Rattle.mh_grammar.specs.Text.{Text}
use Rattle.mh_top_drive.specs.code.ModeCalls.{ModeRan}
use Rattle.mh_top_drive.specs.declared.stop.Stop.{Stop}
use Rattle.mh_top_drive.specs.declared.stop.Stop.TheVariants.{Halted, ShelfFailed, OutOfMemory}
use Rattle.mh_top_drive.specs.Shapes.{Prepared}
use Rattle.mh_top_drive.specs.code.Prepared.{IsConsistent}
use Rattle.mh_top_plans.specs.Plan.{Plan, plan_behavior, halts, writing_plan}
use Rattle.mh_top_plans.specs.declared.at_end.FinalText.{FinalText}

-- A mode that reads files may run on what is prepared, with sets of tokens of `width` words: the parts of what is
-- prepared agree, and the files of the mode (`Asks`), the input (`Reads`) and out (`Writes`) may be used.
pub record MayRunWithFiles (width : ℕ) (p : Prepared) (Asks Reads Writes : Type 0) : Type 0 where
  pub few : width ≤ 8
  pub consistent : IsConsistent p
  pub asked : Asks
  pub may_read : Reads
  pub may_write : Writes

-- The result of opening a mode: a value that represents one of the possible plans (`Is`), or a refusal that is the
-- cause of one of these plans. Two more results are possible: memory ran out, or the shelf failed at a file that was
-- next to be read (`Names`).
abbrev pub Opens : {M : Type 0} → (M → Plan → Type 0) → (Plan → Type 0) → (Text → Type 0) → Result M Stop → Type 0
Opens StandsFor Is Names (Ok mode) = (plan : Plan) × Is plan × StandsFor mode plan
Opens StandsFor Is Names (Err (Halted cause)) = Is (halts cause)
Opens StandsFor Is Names (Err (ShelfFailed name)) = Names name
Opens StandsFor Is Names (Err OutOfMemory) = ⊤
Opens StandsFor Is Names (Err _) = ⊥

-- No mode was opened, since memory ran out or the shelf failed at a file that was next to be read.
abbrev pub IsUnopened : (Text → Type 0) → Result (Unit {0}) Stop → Type 0
IsUnopened Names (Err OutOfMemory) = ⊤
IsUnopened Names (Err (ShelfFailed name)) = Names name
IsUnopened Names _ = ⊥

-- A mode with one of the possible plans ran; or no mode was opened, and the input and out are unchanged.
abbrev pub OpenedAndRan : (Plan → Type 0) → (Text → Type 0) → Option Text → Option Text → Option Text → Option Text → Result (Unit {0}) Stop → Type 0
OpenedAndRan Is Names in0 in1 out0 out1 result = ((plan : Plan) × Is plan × ModeRan plan_behavior plan in0 in1 out0 out1 result) ⊎ (IsUnopened Names result × (in1 ≡ in0) × (out1 ≡ out0))

-- The plan writes this final text and nothing else.
abbrev pub WritesFinal : FinalText → Plan → Type 0
WritesFinal made plan = plan ≡ writing_plan made
