-- The claim on a run of the program: the explanations of conflicts are complete, and each explanation has the first
-- sentence that runs into the conflict (this project's own).
use Rattle.std.specs.Prelude.{◌≡◌, ◌⊎◌, ◌&&◌, ℕ, false, List, Option, Some}
use Rattle.std.specs.Io.KnownBytes.{Appends}
use Rattle.mh_explain.specs.Explanations.{AreExplanations}
use Rattle.mh_opts.specs.declared.jobs.Job.TheVariants.{Explain}
use Rattle.mh_outside.specs.Shelf.{Files}
use Rattle.mh_resolve_cells.specs.declared.conflicts.Conflict.{Conflict}
use Rattle.mh_resolve_cells.specs.Conflicts.{AreConflicts}
use Rattle.mh_top_drive.specs.StageResults.{Go}
use Rattle.mh_top_claims.specs.Claims.{HasNoDeviceFault}
use Rattle.mh_top_claims.specs.Run.{World}
use Rattle.mh_top_drive.specs.Shapes.{Prepared}
use Rattle.mh_grammar.specs.Text.{Text}
use Rattle.mh_top_claims.specs.Preparing.{IsPrepared}
use Rattle.mh_top_prepare.specs.Warnings.{has_warning, warnings_of}

-- The words ask for explanations, and their grammar is accepted: it has a table, and `--strict` does not refuse its
-- conflicts.
pub record AsksForExplanations (words : List Text) (files : Option Files) (p : Prepared) : Type 0 where
  pub prepared : IsPrepared words files (Go p)
  pub job : p.order.job ≡ Explain
  pub accepted : (p.order.strict && has_warning p.tabled.conflicts) ≡ false

-- The outcome of explanations: status 0, out has exactly the explanations of the conflicts of the automaton that levels
-- of precedence do not solve, in the order of their warnings, and err has only the warnings.
pub record ConflictsAreExplained (p : Prepared) (before now : World) (status : ℕ) : Type 0 where
  pub done : status ≡ 0
  pub conflicts : List Conflict
  pub are : AreConflicts p.grammar p.tabled.automaton conflicts
  pub text : Text
  pub explains : AreExplanations p.grammar p.tabled.automaton p.tabled.halting conflicts text
  pub on_out : Appends before.out now.out text
  pub on_err : Appends before.err now.err (warnings_of p)

-- Claim, for every accepted grammar: out has exactly one explanation for each conflict that levels of precedence do not
-- solve (the conflicts with the end of the stream are among them). Each explanation has the first sentence, in the
-- order of sentences, that comes to the state of the conflict, or says that no sentence comes there or that each such
-- sentence costs too much (`AreExplanations`). Premises: the files are known, no device had a fault, and memory did not
-- run out.
abbrev pub ExplainsConflictsExactly : List Text → World → World → ℕ → Type 0
ExplainsConflictsExactly words before now status =
    HasNoDeviceFault before now → (files : Files) → before.files ≡ Some files → (p : Prepared) → AsksForExplanations words (Some files) p → (status ≡ 6) ⊎ ConflictsAreExplained p before now status
