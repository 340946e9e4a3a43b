-- The claim on examined grammar files: out has exactly the lines on what is wrong with the files (this project's own).
use Rattle.std.specs.Prelude.{◌≡◌, ◌⊎◌, ◌↔◌, ℕ, List, [], map, Some}
use Rattle.std.specs.Io.KnownBytes.{Appends}
use Rattle.mh_opts.specs.declared.jobs.Job.TheVariants.{Check}
use Rattle.mh_opts.specs.declared.order.Order.{Order}
use Rattle.mh_outside.specs.Shelf.{Files}
use Rattle.mh_grammar.specs.Text.{Text}
use Rattle.mh_lint.specs.NoWarnings.{HasNoWarning}
use Rattle.mh_lint_faults.specs.Stages.{AreAccepted, Stages}
use Rattle.mh_lint_findings.specs.Lines.{lines_text}
use Rattle.mh_lint_findings.specs.declared.findings.GrammarFile.{GrammarFile}
use Rattle.mh_top_check.specs.Examination.{AreExamined, Examined, built_of, front_of, meanings_of}
use Rattle.mh_top_drive.specs.StageResults.{Go}
use Rattle.mh_top_drive.specs.Statuses.{status_of}
use Rattle.mh_top_load.specs.Order.{staged_order}
use Rattle.mh_top_prepare.specs.PreparedStage.{IsPreparedFromFiles}
use Rattle.mh_top_drive.specs.Shapes.{Prepared}
use Rattle.mh_top_claims.specs.Claims.{HasNoDeviceFault}
use Rattle.mh_top_claims.specs.Run.{World}
use Rattle.mh_top_plans.specs.GrammarChecked.{cause_of_findings}

-- The words ask to examine grammar files, and these are the files with the lines on them.
pub record AsksForCheckedGrammar (words : List Text) (files : Files) (order : Order) (examined : Examined) : Type 0 where
  pub order_is : staged_order words ≡ Go order
  pub job : order.job ≡ Check
  pub is_examined : AreExamined (Some files) order (Go examined)

-- The grammar of these files is accepted, it has a table, and there is no warning of any kind.
pub record IsClean (files : Files) (order : Order) (found : List GrammarFile) : Type 0 where
  pub stages : Stages
  pub accepted : AreAccepted order.stdlib found stages
  pub prepared : Prepared
  pub has_table : IsPreparedFromFiles (Some files) (front_of order stages) (Go prepared)
  pub no_warning : HasNoWarning (map (λ (f : GrammarFile). f.name) found) stages (built_of prepared) (meanings_of order stages)

-- out has exactly the lines, in order, and nothing exactly if the files are clean; err has nothing. The status is 1 if
-- the files have faults, and under `--strict` if there is a line; otherwise it is 0.
pub record IsCheckedGrammarOutcome (files : Files) (order : Order) (examined : Examined) (before now : World) (status : ℕ) : Type 0 where
  pub status_is : status ≡ status_of (cause_of_findings order.strict examined.1.0 examined.1.1)
  pub on_out : Appends before.out now.out (lines_text examined.0 examined.1.1)
  pub silent : (lines_text examined.0 examined.1.1 ≡ []) ↔ IsClean files order examined.0
  pub on_err : Appends before.err now.err []

-- Claim: out has exactly the lines on what is wrong with the grammar files (`AreExamined`, and so `AreFaultLines` and
-- `AreWarningLines`), and so nothing exactly if the grammar is accepted and there is no warning.
-- Premises: the files are known, no device had a fault, and memory did not run out.
abbrev pub ChecksGrammarExactly : List Text → World → World → ℕ → Type 0
ChecksGrammarExactly words before now status =
    HasNoDeviceFault before now → (files : Files) → before.files ≡ Some files → (order : Order) (examined : Examined) → AsksForCheckedGrammar words files order examined
    → (status ≡ 6) ⊎ IsCheckedGrammarOutcome files order examined before now status
