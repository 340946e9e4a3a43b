-- The claim on rebased messages files: the text on out is a messages file that is sound and complete for the new
-- grammar, and has the old messages of the kept sentences (this project's own; sound and complete files: Pottier 2016).
use Rattle.std.specs.Prelude.{◌≡◌, ◌⊎◌, ◌&&◌, ℕ, false, List, [], ◌++◌, Some}
use Rattle.std.specs.Io.KnownBytes.{Appends}
use Rattle.mh_opts.specs.declared.jobs.Job.TheVariants.{RebaseErrors}
use Rattle.mh_outside.specs.Shelf.{Files, Bytes}
use Rattle.mh_grammar.specs.Text.{Text}
use Rattle.mh_tables_core.specs.Failing.{TooLongAt}
use Rattle.mh_msgfile.specs.LooseFiles.{LooseSpells}
use Rattle.mh_msgfile.specs.declared.loose.LooseFile.{LooseFile}
use Rattle.mh_rebase.specs.ReadAgain.{HasNoCr, IsReadAgain}
use Rattle.mh_top_drive.specs.FileContents.{IsFound}
use Rattle.mh_top_drive.specs.StageResults.{Go}
use Rattle.mh_top_claims.specs.Claims.{HasNoDeviceFault}
use Rattle.mh_top_plans.specs.Listing.{too_long}
use Rattle.mh_top_claims.specs.Run.{World}
use Rattle.mh_top_drive.specs.Shapes.{Prepared}
use Rattle.mh_top_claims.specs.Preparing.{IsPrepared}
use Rattle.mh_top_prepare.specs.Warnings.{has_warning, warnings_of}

-- The words ask to rebase a messages file with these entries, and their grammar is accepted: it has a table, and
-- `--strict` does not refuse its conflicts.
pub record AsksForRebasedFile (words : List Text) (files : Files) (p : Prepared) (file : LooseFile) : Type 0 where
  pub prepared : IsPrepared words (Some files) (Go p)
  pub name : Text
  pub job : p.order.job ≡ RebaseErrors name
  pub accepted : (p.order.strict && has_warning p.tabled.conflicts) ≡ false
  pub bytes : Text
  pub found : IsFound (Some files) name (Bytes bytes)
  pub spells : LooseSpells bytes file

-- The two outcomes of rebasing a file. `Written`: status 0, out has exactly the rebased text, which reads as a sound
-- and complete messages file, and err has only the warnings. `Refused`: in some state only sentences of too high a cost
-- fail; status 1, out has nothing, and the last line on err names the lowest such state.
pub data RebasedOutcome (p : Prepared) (file : LooseFile) (before now : World) (status : ℕ) : Type 0 where
  Written : ((s : ℕ) → TooLongAt p.tabled.halting s → ⊥) → status ≡ 0 → (text : Text) → IsReadAgain p.order.comment_expected p.grammar p.tabled.automaton p.tabled.halting file text → Appends before.out now.out text → Appends before.err now.err (warnings_of p) → RebasedOutcome p file before now status
  Refused : (s : ℕ) → TooLongAt p.tabled.halting s → status ≡ 1 → Appends before.out now.out [] → Appends before.err now.err (warnings_of p ++ too_long s) → RebasedOutcome p file before now status

-- Claim, for every accepted grammar: out has exactly the rebased text. It spells a messages file in which each sentence
-- fails at its last token, no two fail in one state, each state in which some sentence fails has a sentence, and each
-- kept sentence has its old message (`IsReadAgain`).
-- Premises: the files are known, no device had a fault, memory did not run out, no state has only failing sentences of
-- too high a cost (otherwise the lowest such state is refused), and no line of an old message ends in a CR.
abbrev pub RebasesSoundly : List Text → World → World → ℕ → Type 0
RebasesSoundly words before now status =
    HasNoDeviceFault before now → (files : Files) → before.files ≡ Some files → (p : Prepared) (file : LooseFile) → AsksForRebasedFile words files p file → HasNoCr file
    → (status ≡ 6) ⊎ RebasedOutcome p file before now status
