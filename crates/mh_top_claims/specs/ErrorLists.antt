-- When the program writes a list of errors: for each accepted grammar the list is written, or a state is reported in
-- which only sentences of too high a cost fail (after Pottier 2016, "Reachability and error diagnosis in LR(1)
-- parsers"). What status 0 says of the list without these premises is in `Headline`.
use Rattle.std.specs.Prelude.{◌≡◌, ◌⊎◌, ◌&&◌, ℕ, false, List, [], ◌++◌, Option, Some}
use Rattle.std.specs.Io.KnownBytes.{Appends}
use Rattle.mh_opts.specs.declared.jobs.Job.TheVariants.{ListErrors}
use Rattle.mh_outside.specs.Shelf.{Files}
use Rattle.mh_tables_core.specs.Failing.{TooLongAt}
use Rattle.mh_top_drive.specs.StageResults.{Go}
use Rattle.mh_top_claims.specs.Claims.{HasNoDeviceFault}
use Rattle.mh_report.specs.CatalogueTexts.{IsCatalogueText}
use Rattle.mh_top_plans.specs.Listing.{too_long}
use Rattle.mh_top_claims.specs.Run.{World}
use Rattle.mh_top_drive.specs.Shapes.{Prepared}
use Rattle.mh_grammar.specs.Text.{Text}
use Rattle.mh_top_claims.specs.Preparing.{IsPrepared}
use Rattle.mh_top_prepare.specs.Warnings.{has_warning, warnings_of}

-- The words ask for the list of errors, and their grammar is accepted: it has a table, and `--strict` does not refuse
-- its conflicts.
pub record AsksForErrorList (words : List Text) (files : Option Files) (p : Prepared) : Type 0 where
  pub prepared : IsPrepared words files (Go p)
  pub job : p.order.job ≡ ListErrors
  pub accepted : (p.order.strict && has_warning p.tabled.conflicts) ≡ false

-- The two outcomes of a list of errors. `Listed`: status 0, out has exactly the entries of the table's catalogue, and
-- err has only the warnings. `Refused`: in some state only sentences of too high a cost fail; status 1, out has
-- nothing, and the last line on err names the lowest such state.
pub data ErrorListOutcome (p : Prepared) (before now : World) (status : ℕ) : Type 0 where
  Listed : ((s : ℕ) → TooLongAt p.tabled.halting s → ⊥) → status ≡ 0 → (text : Text) → IsCatalogueText p.order.comment_expected p.grammar p.tabled.automaton p.tabled.halting text → Appends before.out now.out text → Appends before.err now.err (warnings_of p) → ErrorListOutcome p before now status
  Refused : (s : ℕ) → TooLongAt p.tabled.halting s → status ≡ 1 → Appends before.out now.out [] → Appends before.err now.err (warnings_of p ++ too_long s) → ErrorListOutcome p before now status

-- Claim, for every accepted grammar: out has exactly the entries of the states in which some sentence fails, each state
-- once, in rising order, each with the first sentence that fails there in the order of sentences, which compares costs
-- first (`Catalogue`, `SentenceAtMost`). A sentence fails in a state if it is refused there at its last token.
-- Premises: the files are known, no device had a fault, memory did not run out, and no state has only failing sentences
-- of too high a cost. Without the last premise the call refuses the lowest such state.
abbrev pub ListsErrorsExactly : List Text → World → World → ℕ → Type 0
ListsErrorsExactly words before now status =
    HasNoDeviceFault before now → (files : Files) → before.files ≡ Some files → (p : Prepared) → AsksForErrorList words (Some files) p → (status ≡ 6) ⊎ ErrorListOutcome p before now status
