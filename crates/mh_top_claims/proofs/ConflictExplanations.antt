-- Proves the claim on explanations of conflicts from the definition of a run.
use Rattle.std.proofs.Common.{◌≡◌, ◌⊎◌, inl, inr, ℕ, List, [], ◌++◌, Option, Some, ◌∙◌, ap, subst}
use Rattle.std.proofs.lemmas.List.{append-nil}
use Rattle.std.specs.Io.KnownBytes.{Appends}
use Rattle.mh_opts.specs.declared.jobs.Job.TheVariants.{Explain}
use Rattle.mh_outside.specs.Shelf.{Files}
use Rattle.mh_top_drive.specs.Statuses.{last_line_of, status_of}
use Rattle.mh_top_claims.specs.ConflictExplanations.{AsksForExplanations, ConflictsAreExplained, ExplainsConflictsExactly}
use Rattle.mh_top_drive.specs.ModeBehavior.{HasOutcome}
use Rattle.mh_top_plans.specs.Plan.{Plan, Ends, Conflicts, IsFinalOutput, plan_behavior}
use Rattle.mh_top_claims.specs.Run.{World, DoesWork}
use Rattle.mh_top_claims.specs.Run as runs
use Rattle.mh_top_drive.specs.Shapes.{Prepared}
use Rattle.mh_grammar.specs.Text.{Text}
use Rattle.mh_top_claims.specs.Work.{IsWork}
use Rattle.mh_top_prepare.specs.Warnings.{warnings_of}
use Rattle.mh_top_drive.specs.declared.stop.Cause.{Cause}
use Rattle.mh_top_claims.proofs.Claims.{does_work_without_fault}
use Rattle.mh_top_claims.proofs.FinalOutputOutcome.{yields_end}
use Rattle.mh_top_claims.proofs.WorkOfJob.{work_is}
use Rattle.mh_top_claims.proofs.VerdictClaims.{prepared_fit}

module _ (words : List Text) (b a : World) (status : ℕ) where
  done : (files : Files) → b.files ≡ Some files → (p : Prepared) → AsksForExplanations words (Some files) p → DoesWork words b a status → ConflictsAreExplained p b a status
  done files known p asks does =
      let work = work_is words files p Explain (Conflicts p) (λ plan is. is) asks.prepared asks.job asks.accepted (λ e. cc) does.work (subst (λ (x : Option Files). IsWork words x does.work) known does.is_asked) in
      let yields : HasOutcome plan_behavior (Ends (Conflicts p)) b.left does.outcome = subst (λ (l : Plan). HasOutcome plan_behavior l b.left does.outcome) work.1 does.yields in
      let made : IsFinalOutput (Conflicts p) (record { cause = does.outcome.cause; out = does.outcome.out }) = yields_end (Conflicts p) b.left does.outcome yields in
      let on_err : Appends b.err a.err (warnings_of p ++ last_line_of does.outcome.cause) = subst (λ (t : Text). Appends b.err a.err (t ++ last_line_of does.outcome.cause)) work.0 does.on_err in
      let no_line : Appends b.err a.err (warnings_of p ++ []) = subst (λ (c : Option Cause). Appends b.err a.err (warnings_of p ++ last_line_of c)) made.0 on_err in
      record {
        done = does.status_is ∙ ap status_of made.0;
        conflicts = p.tabled.conflicts;
        are = (prepared_fit words (Some files) p asks.prepared).conflicts;
        text = does.outcome.out;
        explains = made.1;
        on_out = does.on_out;
        on_err = subst (λ (t : Text). Appends b.err a.err t) (append-nil (warnings_of p)) no_line;
      }

  pub explains_exactly : runs.Ran words b a status → ExplainsConflictsExactly words b a status
  explains_exactly ran no_fault files known p asks = or (does_work_without_fault words b a status ran no_fault)
    where
      or : (status ≡ 6) ⊎ DoesWork words b a status → (status ≡ 6) ⊎ ConflictsAreExplained p b a status
      or (inl six) = inl six
      or (inr does) = inr (done files known p asks does)
