-- The claim on examined messages files: out has a line for each thing that is wrong with the file, and nothing exactly
-- if the file is sound and complete and all its messages are written (this project's own; sound and complete files:
-- Pottier 2016).
use Rattle.std.specs.Prelude.{◌≡◌, ◌⊎◌, ◌↔◌, ◌&&◌, ℕ, false, List, [], ◌++◌, Some}
use Rattle.std.specs.Io.KnownBytes.{Appends}
use Rattle.mh_opts.specs.declared.jobs.Job.TheVariants.{CheckErrors}
use Rattle.mh_outside.specs.Shelf.{Files, Bytes}
use Rattle.mh_grammar.specs.Text.{Text}
use Rattle.mh_tables_core.specs.Failing.{TooLongAt}
use Rattle.mh_msgfile.specs.FileBlocks.{HasBlocks}
use Rattle.mh_msgfile.specs.declared.blocks.LooseBlocks.{LooseBlocks}
use Rattle.mh_lint_messages.specs.Complete.{IsFaultless}
use Rattle.mh_rebase.specs.ErrorLines.{IsErrorText}
use Rattle.mh_top_drive.specs.FileContents.{IsFound}
use Rattle.mh_top_drive.specs.StageResults.{Go}
use Rattle.mh_top_drive.specs.Statuses.{status_of}
use Rattle.mh_top_claims.specs.Claims.{HasNoDeviceFault}
use Rattle.mh_top_plans.specs.ErrorsChecked.{cause_of_lines}
use Rattle.mh_top_plans.specs.Listing.{too_long}
use Rattle.mh_top_claims.specs.Run.{World}
use Rattle.mh_top_drive.specs.Shapes.{Prepared}
use Rattle.mh_top_claims.specs.Preparing.{IsPrepared}
use Rattle.mh_top_prepare.specs.Warnings.{has_warning, warnings_of}

-- The words ask to examine the messages file of this name and these bytes, and their grammar is accepted: the grammar
-- has a table, and `--strict` does not refuse its conflicts.
pub record AsksForCheckedErrors (words : List Text) (files : Files) (p : Prepared) (name bytes : Text) (blocks : LooseBlocks) : Type 0 where
  pub prepared : IsPrepared words (Some files) (Go p)
  pub job : p.order.job ≡ CheckErrors name
  pub accepted : (p.order.strict && has_warning p.tabled.conflicts) ≡ false
  pub found : IsFound (Some files) name (Bytes bytes)
  pub has : HasBlocks bytes blocks

-- The two outcomes. `Written`: out has exactly the lines on what is wrong, none exactly if the file is faultless; the
-- status is 0 without a line and otherwise 1; err has only the warnings. `Refused`: in some state only sentences of too
-- high a cost fail; status 1, out has nothing, and the last line on err names the lowest such state.
pub data CheckedErrorsOutcome (p : Prepared) (name bytes : Text) (blocks : LooseBlocks) (before now : World) (status : ℕ) : Type 0 where
  Written : (text : Text) → IsErrorText p.grammar p.tabled.halting name blocks text → (text ≡ []) ↔ IsFaultless p.grammar p.tabled.halting bytes → status ≡ status_of (cause_of_lines text)
      → Appends before.out now.out text → Appends before.err now.err (warnings_of p) → CheckedErrorsOutcome p name bytes blocks before now status
  Refused : (s : ℕ) → TooLongAt p.tabled.halting s → status ≡ 1 → Appends before.out now.out [] → Appends before.err now.err (warnings_of p ++ too_long s) → CheckedErrorsOutcome p name bytes blocks before now status

-- Claim, for every accepted grammar and every messages file: out has exactly the lines on what is wrong with the file.
-- Premises: the files are known, no device had a fault, and memory did not run out.
abbrev pub ChecksErrorsExactly : List Text → World → World → ℕ → Type 0
ChecksErrorsExactly words before now status =
    HasNoDeviceFault before now → (files : Files) → before.files ≡ Some files → (p : Prepared) (name bytes : Text) (blocks : LooseBlocks) → AsksForCheckedErrors words files p name bytes blocks
    → (status ≡ 6) ⊎ CheckedErrorsOutcome p name bytes blocks before now status
