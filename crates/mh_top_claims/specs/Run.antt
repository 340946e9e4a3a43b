-- The runs of the program: `Ran` is the one definition from which all claims on a call of the whole program follow.
use Rattle.std.specs.Prelude.{◌≡◌, ℕ, Bool, true, false, ◌&&◌, List, [], ◌++◌, Option, Some}
use Rattle.std.specs.Io.KnownBytes.{Appends}
use Rattle.mh_outside.specs.Faults.{HasRisen}
use Rattle.mh_outside.specs.Shelf.{Files}
use Rattle.mh_outside.specs.Sink.{AppendsPrefix, IsPrefix}
use Rattle.mh_opts.specs.declared.order.Order.{Order}
use Rattle.mh_grammar.specs.Text.{Text}
use Rattle.mh_top_drive.specs.Text.{cannot_read, cannot_read_input, out_of_memory}
use Rattle.mh_top_drive.specs.StageResults.{Go}
use Rattle.mh_top_drive.specs.Statuses.{status_of, line_of_cause, last_line_of}
use Rattle.mh_opts.specs.declared.jobs.Job.TheVariants.{Check}
use Rattle.mh_top_check.specs.Examination.{IsNextOfCheck}
use Rattle.mh_top_load.specs.Order.{staged_order}
use Rattle.mh_top_load.specs.GrammarFile.{IsModule}
use Rattle.mh_top_load.specs.Modules.{grammar_files}
use Rattle.mh_top_drive.specs.NextFile.{IsNextFile}
use Rattle.mh_top_claims.specs.NextTableFile.{IsTableFileNext}
use Rattle.mh_top_drive.specs.ModeBehavior.{Outcome, HasOutcome}
use Rattle.mh_top_claims.specs.Work.{IsWork, NeedsTable, Work}
use Rattle.mh_top_prepare.specs.Warnings.{has_warning, warnings_of}
use Rattle.mh_top_claims.specs.Preparing.{IsPrepared}
use Rattle.mh_top_plans.specs.Files.{IsNextFileOfJob}
use Rattle.mh_top_plans.specs.Plan.{plan_behavior}
use Rattle.mh_top_drive.specs.ModeRuns.{IsPartialRun, ReadFailsAt, WriteFailsAt, LacksMemoryAt, LeavesInput, IsCompleteRun}
use Rattle.mh_top_drive.specs.Shapes.{Prepared}
use Rattle.mh_top_drive.specs.declared.stop.Cause.{Cause}

-- The devices at one moment: the files of the shelf, the rest of the input, and the texts on out and err, as far as
-- contracts know them; and each device's count of faults.
pub record World : Type 0 where
  pub files : Option Files
  pub left : Option Text
  pub out : Option Text
  pub err : Option Text
  pub shelf_faults : ℕ
  pub input_faults : ℕ
  pub out_faults : ℕ
  pub err_faults : ℕ

module _ {F I O E : Type 0} where
  -- The devices at one moment, by the contracts of the shelf, the input, out and err.
  abbrev pub world : (F → Option Files) → (F → ℕ) → (I → Option Text) → (I → ℕ) → (O → Option Text) → (O → ℕ) → (E → Option Text) → (E → ℕ) → F → I → O → E → World
  world files shelf_faults left input_faults out out_faults err err_faults f i o e = record {
    files = files f;
    left = left i;
    out = out o;
    err = err e;
    shelf_faults = shelf_faults f;
    input_faults = input_faults i;
    out_faults = out_faults o;
    err_faults = err_faults e;
  }

-- ---- Unfinished work, and the next file to read.

-- This file of the mode is the next to be read. There is none if the grammar is refused under `--strict`.
abbrev pub IsNextUnlessRefused : Bool → Option Files → Prepared → Text → Type 0
IsNextUnlessRefused true files p name = ⊥
IsNextUnlessRefused false files p name = IsNextFileOfJob p.order.job files p name

-- This file is the next to be read after the warnings.
abbrev pub IsNextAfterWarnings : Option Files → Prepared → Text → Type 0
IsNextAfterWarnings files p name = IsNextUnlessRefused (p.order.strict && has_warning p.tabled.conflicts) files p name

-- This file is the next to be read, and `err_text` is the text on err before: of the grammar files of the order, which
-- are read as modules or to be examined; or its table file; or, after the warnings, of the files that the mode reads.
pub data IsNextToRead (words : List Text) (files : Option Files) (err_text name : Text) : Type 0 where
  OfGrammar : NeedsTable words → (order : Order) → staged_order words ≡ Go order → IsNextFile files IsModule (grammar_files order) name → err_text ≡ [] → IsNextToRead words files err_text name
  OfTables : NeedsTable words → IsTableFileNext words files name → err_text ≡ [] → IsNextToRead words files err_text name
  OfMode : NeedsTable words → (p : Prepared) → IsPrepared words files (Go p) → IsNextAfterWarnings files p name → err_text ≡ warnings_of p → IsNextToRead words files err_text name
  OfCheck : (order : Order) → staged_order words ≡ Go order → order.job ≡ Check → IsNextOfCheck order files name → err_text ≡ [] → IsNextToRead words files err_text name

-- The input and out are unchanged.
pub record LeavesInputAndOut (before now : World) : Type 0 where
  pub out : now.out ≡ before.out
  pub left : now.left ≡ before.left
  pub input_faults : now.input_faults ≡ before.input_faults
  pub out_faults : now.out_faults ≡ before.out_faults

-- For some work that the words ask for, `At` is true of the work, and `OnErr` is true of its warnings.
pub record AfterWarnings (words : List Text) (before : World) (At : Work → Type 0) (OnErr : Text → Type 0) : Type 0 where
  pub work : Work
  pub is_asked : IsWork words before.files work
  pub at : At work
  pub on_err : OnErr work.warnings

-- The work that was done before memory ran out: nothing, or the warnings, or the warnings and a part of the mode.
-- `OnErr` is true of the text on err before.
pub data DoneSoFar (words : List Text) (before now : World) (OnErr : Text → Type 0) : Type 0 where
  Nothing : LeavesInputAndOut before now → OnErr [] → DoneSoFar words before now OnErr
  Warned : NeedsTable words → (p : Prepared) → IsPrepared words before.files (Go p) → LeavesInputAndOut before now → OnErr (warnings_of p) → DoneSoFar words before now OnErr
  Begun : AfterWarnings words before (λ w. IsPartialRun plan_behavior w.plan before.left before.out now.out (LacksMemoryAt plan_behavior w.plan before.left now.left)) OnErr → DoneSoFar words before now OnErr

-- ---- The work before its last line on err.

-- No count of faults rose.
pub record KeepsFaultCounts (before now : World) : Type 0 where
  pub shelf : now.shelf_faults ≡ before.shelf_faults
  pub input : now.input_faults ≡ before.input_faults
  pub out : now.out_faults ≡ before.out_faults
  pub err : now.err_faults ≡ before.err_faults

-- No write failed.
pub record NoWriteFailed (before now : World) : Type 0 where
  pub out : now.out_faults ≡ before.out_faults
  pub err : now.err_faults ≡ before.err_faults

-- The whole text on err: the warnings and the last line.
abbrev pub text_on_err : Work → Outcome → Text
text_on_err w o = w.warnings ++ last_line_of o.cause

-- The work that the words ask for was done: the status, both texts and the rest of the input are those of an outcome of
-- its mode.
pub record DoesWork (words : List Text) (before now : World) (status : ℕ) : Type 0 where
  pub work : Work
  pub is_asked : IsWork words before.files work
  pub outcome : Outcome
  pub yields : HasOutcome plan_behavior work.plan before.left outcome
  pub status_is : status ≡ status_of outcome.cause
  pub on_out : Appends before.out now.out outcome.out
  pub on_err : Appends before.err now.err (text_on_err work outcome)
  pub left_is : LeavesInput outcome.left now.left

-- A read of the input failed, and out has exactly the answers to the lines that were read whole.
abbrev pub InputReadFailed : World → World → Work → Type 0
InputReadFailed before now w = IsPartialRun plan_behavior w.plan before.left before.out now.out (ReadFailsAt plan_behavior w.plan before.left now.left)

-- A write on out failed. Nothing was written after it, and no further line was read.
abbrev pub OutWriteFailed : World → World → Work → Type 0
OutWriteFailed before now w = IsPartialRun plan_behavior w.plan before.left before.out now.out (WriteFailsAt plan_behavior w.plan before.left now.left)

-- A write of the warnings failed. Nothing was read from the input or written on out.
pub record WarningWriteFailed (words : List Text) (before now : World) : Type 0 where
  pub needs : NeedsTable words
  pub prepared : Prepared
  pub is_asked : IsPrepared words before.files (Go prepared)
  pub unchanged : LeavesInputAndOut before now
  pub on_err : AppendsPrefix before.err now.err (warnings_of prepared)

-- The mode of the work ran to its end, with this cause or none.
abbrev pub ModeEnded : World → World → Option Cause → Work → Type 0
ModeEnded before now cause w = IsCompleteRun plan_behavior w.plan before.left now.left before.out now.out cause

-- The whole text `err_text` was appended, and then a prefix of the line.
abbrev pub AppendsThenPrefix : Option Text → Option Text → Text → Text → Type 0
AppendsThenPrefix old new err_text line = (part : Text) × Appends old new (err_text ++ part) × IsPrefix part line

-- The last line that the call has to write on err, after the text `err_text`, for each reason to stop but a failed
-- write: `OnErr err_text line` is true.
pub data HasLastLine (words : List Text) (before now : World) (OnErr : Text → Text → Type 0) : Type 0 where
  OfCause : (cause : Cause) → AfterWarnings words before (ModeEnded before now (Some cause)) (λ err_text. OnErr err_text (line_of_cause cause)) → HasLastLine words before now OnErr
  OfFile : (err_text name : Text) → IsNextToRead words before.files err_text name → LeavesInputAndOut before now → OnErr err_text (cannot_read name) → HasLastLine words before now OnErr
  OfInput : AfterWarnings words before (InputReadFailed before now) (λ err_text. OnErr err_text cannot_read_input) → HasLastLine words before now OnErr
  OfMemory : DoneSoFar words before now (λ err_text. OnErr err_text out_of_memory) → HasLastLine words before now OnErr

-- A run of the program, by the reason for its end: the work was done; a file or the input could not be read; the
-- warnings, the output or the last line could not be written; or memory ran out. Each case gives the status, the counts
-- of faults, both texts and the rest of the input.
pub data Ran (words : List Text) (before now : World) (status : ℕ) : Type 0 where
  Finished : KeepsFaultCounts before now → DoesWork words before now status → Ran words before now status
  -- The shelf failed at the file that was next to be read.
  CannotReadFile : status ≡ 3 → HasRisen before.shelf_faults now.shelf_faults → NoWriteFailed before now → (err_text name : Text) → IsNextToRead words before.files err_text name → LeavesInputAndOut before now → Appends before.err now.err (err_text ++ cannot_read name) → Ran words before now status
  CannotReadInput : status ≡ 3 → HasRisen before.input_faults now.input_faults → NoWriteFailed before now → AfterWarnings words before (InputReadFailed before now) (λ err_text. Appends before.err now.err (err_text ++ cannot_read_input)) → Ran words before now status
  CannotWarn : status ≡ 4 → HasRisen before.err_faults now.err_faults → WarningWriteFailed words before now → Ran words before now status
  CannotWrite : status ≡ 4 → HasRisen before.out_faults now.out_faults → now.input_faults ≡ before.input_faults → now.err_faults ≡ before.err_faults → AfterWarnings words before (OutWriteFailed before now) (Appends before.err now.err) → Ran words before now status
  -- The last line was cut short. All warnings are on err.
  CannotSay : status ≡ 4 → now.out_faults ≡ before.out_faults → HasRisen before.err_faults now.err_faults → HasLastLine words before now (AppendsThenPrefix before.err now.err) → Ran words before now status
  NoMemory : status ≡ 6 → NoWriteFailed before now → now.input_faults ≡ before.input_faults → DoneSoFar words before now (λ err_text. Appends before.err now.err (err_text ++ out_of_memory)) → Ran words before now status
