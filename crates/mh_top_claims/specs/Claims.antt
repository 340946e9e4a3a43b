-- The claims on a call of the whole program: its status, its texts and the input that the call leaves. Each claim
-- follows from the one definition `Ran`.
use Rattle.std.specs.Prelude.{◌≡◌, ◌⊎◌, ℕ, List, [], ◌++◌, Option, Some, None, false, ⊤}
use Rattle.std.specs.Io.KnownBytes.{Appends}
use Rattle.mh_outside.specs.Faults.{HasRisen, HasNotRisen}
use Rattle.mh_outside.specs.Shelf.{Files, FileFound, NoFile, Long}
use Rattle.mh_grammar.specs.Text.{Text}
use Rattle.mh_top_drive.specs.Text.{cannot_read, cannot_read_input, out_of_memory}
use Rattle.mh_top_drive.specs.InputLines.{lines_of_input, are_within_limits}
use Rattle.mh_top_drive.specs.StageResults.{Halt}
use Rattle.mh_top_load.specs.Order.{staged_order}
use Rattle.mh_top_drive.specs.FileContents.{IsFound}
use Rattle.mh_top_plans.specs.Plan.{Plan, asks_of, plan_behavior}
use Rattle.mh_top_claims.specs.Work.{Work, IsWork}
use Rattle.mh_top_drive.specs.Limits.{line_limit}
use Rattle.mh_top_drive.specs.ModeBehavior.{max_lines, requested_lines}
use Rattle.mh_top_drive.specs.ModeRuns.{IsEndPrefix, IsAnswerPrefix, HasAnswered}
use Rattle.mh_top_claims.specs.Run.{World, AfterWarnings, NoWriteFailed, OutWriteFailed, AppendsThenPrefix, WarningWriteFailed, DoesWork, DoneSoFar, InputReadFailed, IsNextToRead, KeepsFaultCounts, LeavesInputAndOut, HasLastLine}
use Rattle.mh_top_drive.specs.declared.driving.Asks.{Asks}
use Rattle.mh_top_drive.specs.declared.driving.Asks.TheVariants.{NoLine}
use Rattle.mh_top_drive.specs.declared.stop.Cause.TheVariants.{Misused}

-- The shelf has this under the name of the file that is next to be read.
abbrev pub NextFileIs : List Text → FileFound → Option Files → Type 0
NextFileIs words what files = (err_text name : Text) × IsNextToRead words files err_text name × IsFound files name what

-- The files are known, and the file that is next to be read is not among them.
abbrev pub IsNextFileAbsent : List Text → Option Files → Type 0
IsNextFileAbsent words files = NextFileIs words NoFile files

-- The file that is next to be read is longer than the limit.
abbrev pub IsNextFileTooLong : List Text → Option Files → Type 0
IsNextFileTooLong words files = NextFileIs words Long files

-- The mode asks for lines.
abbrev pub AsksLines : Plan → Type 0
AsksLines plan = asks_of plan ≡ NoLine → ⊥

-- The input has a line that is asked for and longer than the limit, or too many lines. This is always true of an input
-- that is not known.
abbrev pub IsInputOverLimit : Asks → Option Text → Type 0
IsInputOverLimit asks None = ⊤
IsInputOverLimit asks (Some input) = are_within_limits line_limit (max_lines asks) (requested_lines asks (max_lines asks) (lines_of_input input)) ≡ false

-- The work that the words ask for reads lines of an input that is over a limit.
abbrev pub ReadsInputOverLimit : List Text → World → Type 0
ReadsInputOverLimit words before = (w : Work) × IsWork words before.files w × AsksLines w.plan × IsInputOverLimit (asks_of w.plan) before.left

-- For each device, the count of faults did not rise and is not the highest number that it can be.
pub record HasNoDeviceFault (before now : World) : Type 0 where
  pub shelf : HasNotRisen before.shelf_faults now.shelf_faults
  pub input : HasNotRisen before.input_faults now.input_faults
  pub out : HasNotRisen before.out_faults now.out_faults
  pub err : HasNotRisen before.err_faults now.err_faults

-- Claim: if no device had a fault, the call does the work that the words ask for, unless memory runs out (status 6).
abbrev pub Completes : List Text → World → World → ℕ → Type 0
Completes words before now status = HasNoDeviceFault before now → (status ≡ 6) ⊎ DoesWork words before now status

-- The statuses of work that no fault of a device and no lack of memory cut short: 0 (done), 1 (refused), 2 (misused)
-- and 5 (too big).
abbrev pub IsStatusWithoutFault : ℕ → Type 0
IsStatusWithoutFault status = (status ≡ 0) ⊎ (status ≡ 1) ⊎ (status ≡ 2) ⊎ (status ≡ 5)

-- Claim: if the status is one of these, no count of faults rose, and the call did the work that the words ask for.
abbrev pub Finishes : List Text → World → World → ℕ → Type 0
Finishes words before now status = IsStatusWithoutFault status → KeepsFaultCounts before now × DoesWork words before now status

-- Claim: status 2 means that the words are misused, and err has the line that says how.
abbrev pub MisuseHasCause : List Text → World → World → ℕ → Type 0
MisuseHasCause words before now status = status ≡ 2 → (line : Text) × (staged_order words ≡ Halt (Misused line)) × Appends before.err now.err line

-- Claim: status 3 has one of three reasons. The shelf's count of faults rose at a file that was next to be read; then
-- the input and out are unchanged, and the last line on err names this file. Or the file that is next to be read is
-- absent. Or the input's count of faults rose; then out has exactly the answers to the lines that were read whole.
abbrev pub ReadFaultHasCause : List Text → World → World → ℕ → Type 0
ReadFaultHasCause words before now status = status ≡ 3 →
    (HasRisen before.shelf_faults now.shelf_faults × ((err_text name : Text) × IsNextToRead words before.files err_text name × LeavesInputAndOut before now × Appends before.err now.err (err_text ++ cannot_read name)))
    ⊎ IsNextFileAbsent words before.files
    ⊎ (HasRisen before.input_faults now.input_faults × AfterWarnings words before (InputReadFailed before now) (λ err_text. Appends before.err now.err (err_text ++ cannot_read_input)))

-- Claim: if the file that is next to be read is absent, and no device had a fault, the status is 3, unless memory runs
-- out.
abbrev pub AbsentFileIsReported : List Text → World → World → ℕ → Type 0
AbsentFileIsReported words before now status = HasNoDeviceFault before now → (files : Files) → before.files ≡ Some files → IsNextFileAbsent words (Some files) → (status ≡ 3) ⊎ (status ≡ 6)

-- Claim: status 4 means that the count of faults of out or of err rose.
abbrev pub WriteFaultHasCause : World → World → ℕ → Type 0
WriteFaultHasCause before now status = status ≡ 4 → HasRisen before.out_faults now.out_faults ⊎ HasRisen before.err_faults now.err_faults

-- Claim: if a write failed, the status is 4.
abbrev pub WriteFaultIsReported : World → World → ℕ → Type 0
WriteFaultIsReported before now status = (NoWriteFailed before now → ⊥) → status ≡ 4

-- Claim: after a failed write nothing is written and no further line is read. One of three texts was cut short: the
-- warnings, and nothing else was done; the text on out, after whole warnings, where the last line that was read is the
-- one that was being answered; or the last line on err, after whole warnings.
abbrev pub WriteFaultStops : List Text → World → World → ℕ → Type 0
WriteFaultStops words before now status = status ≡ 4 →
    WarningWriteFailed words before now ⊎ AfterWarnings words before (OutWriteFailed before now) (Appends before.err now.err) ⊎ HasLastLine words before now (AppendsThenPrefix before.err now.err)

-- Claim: if memory ran out (status 6), the warnings are on err whole or not at all, out has the answers to the first
-- lines and perhaps a prefix of the text at the end of the mode, and the last line on err says why.
abbrev pub OutOfMemoryKeepsTexts : List Text → World → World → ℕ → Type 0
OutOfMemoryKeepsTexts words before now status = status ≡ 6 → (now.input_faults ≡ before.input_faults) × DoneSoFar words before now (λ err_text. Appends before.err now.err (err_text ++ out_of_memory))

-- Claim: status 5 means that a limit is passed, by the file that is next to be read or by an input whose lines are
-- asked for.
abbrev pub TooBigHasCause : List Text → World → World → ℕ → Type 0
TooBigHasCause words before now status = status ≡ 5 → IsNextFileTooLong words before.files ⊎ ReadsInputOverLimit words before

-- Claim: if the file that is next to be read is longer than the limit, and no device had a fault, the status is 5,
-- unless memory runs out.
abbrev pub LongFileIsReported : List Text → World → World → ℕ → Type 0
LongFileIsReported words before now status = HasNoDeviceFault before now → (files : Files) → before.files ≡ Some files → IsNextFileTooLong words (Some files) → (status ≡ 5) ⊎ (status ≡ 6)

-- Claim: if the input is over a limit and its lines are asked for, and no device had a fault, the status is 5, unless
-- memory runs out.
abbrev pub LongInputIsReported : List Text → World → World → ℕ → Type 0
LongInputIsReported words before now status = HasNoDeviceFault before now → (input : Text) → before.left ≡ Some input
    → ((w : Work) → IsWork words before.files w → AsksLines w.plan × IsInputOverLimit (asks_of w.plan) (Some input)) → (status ≡ 5) ⊎ (status ≡ 6)

-- The text is a prefix of the output of the mode: the answers to the first lines, and then a prefix of the next answer
-- or of the text at the end of the mode.
pub record IsOutputPrefix (plan : Plan) (input : Option Text) (text : Text) : Type 0 where
  pub lines : List Text
  pub answers : Text
  pub next : Plan
  pub prefix : Text
  pub answered : HasAnswered plan_behavior plan input lines answers next
  pub is_prefix : (prefix ≡ []) ⊎ IsAnswerPrefix plan_behavior plan input lines next prefix ⊎ IsEndPrefix plan_behavior plan input lines next prefix
  pub text_is : text ≡ answers ++ prefix

-- Claim: the text that was written on out is empty, or a prefix of the output of the work that the words ask for.
abbrev pub WritesOutputPrefix : List Text → World → World → Type 0
WritesOutputPrefix words before now = Appends before.out now.out [] ⊎ ((w : Work) × IsWork words before.files w × ((text : Text) × Appends before.out now.out text × IsOutputPrefix w.plan before.left text))

-- Claim: if the files are known, the text that was written on out is empty, or a prefix of the output of any work that
-- the words ask for over these files. (There is only one such work.)
abbrev pub WritesPrefixOfAnyWork : List Text → World → World → Type 0
WritesPrefixOfAnyWork words before now = (files : Files) → before.files ≡ Some files → (w : Work) → IsWork words (Some files) w
    → Appends before.out now.out [] ⊎ ((text : Text) × Appends before.out now.out text × IsOutputPrefix w.plan before.left text)

-- The status is one of 0 to 6.
abbrev pub IsStatus : ℕ → Type 0
IsStatus status = IsStatusWithoutFault status ⊎ (status ≡ 3) ⊎ (status ≡ 4) ⊎ (status ≡ 6)

-- All claims on the status of the call, on the texts that it wrote and on the input that it left.
pub record MeetsClaims (words : List Text) (before now : World) (status : ℕ) : Type 0 where
  pub complete : Completes words before now status
  pub finishes : Finishes words before now status
  pub known : IsStatus status
  pub misuse : MisuseHasCause words before now status
  pub read_fault : ReadFaultHasCause words before now status
  pub absent : AbsentFileIsReported words before now status
  pub write_fault : WriteFaultHasCause before now status
  pub write_fault_said : WriteFaultIsReported before now status
  pub write_fault_stops : WriteFaultStops words before now status
  pub out_of_memory : OutOfMemoryKeepsTexts words before now status
  pub too_big : TooBigHasCause words before now status
  pub long_file : LongFileIsReported words before now status
  pub long_input : LongInputIsReported words before now status
  pub output_prefix : WritesOutputPrefix words before now
  pub prefix_of_any_work : WritesPrefixOfAnyWork words before now
