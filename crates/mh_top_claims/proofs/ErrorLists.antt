-- Proves the claim on lists of errors from the definition of a run.
use Rattle.std.proofs.Common.{◌≡◌, ◌⊎◌, inl, inr, ℕ, List, [], ◌++◌, Option, Some, ◌∙◌, ap, subst}
use Rattle.std.proofs.lemmas.List.{append-nil}
use Rattle.std.specs.Io.KnownBytes.{Appends}
use Rattle.mh_opts.specs.declared.jobs.Job.TheVariants.{ListErrors}
use Rattle.mh_outside.specs.Shelf.{Files}
use Rattle.mh_top_drive.specs.Statuses.{last_line_of, status_of}
use Rattle.mh_top_claims.specs.ErrorLists.{ErrorListOutcome, AsksForErrorList, Listed, ListsErrorsExactly, Refused}
use Rattle.mh_top_plans.specs.Listing.{ListsErrors, Lists, TooLong}
use Rattle.mh_top_drive.specs.ModeBehavior.{HasOutcome}
use Rattle.mh_top_plans.specs.Plan.{Plan, Ends, Errors, plan_behavior}
use Rattle.mh_top_claims.specs.Run.{World, DoesWork}
use Rattle.mh_top_claims.specs.Run as runs
use Rattle.mh_top_drive.specs.Shapes.{Prepared}
use Rattle.mh_grammar.specs.Text.{Text}
use Rattle.mh_top_claims.specs.Work.{IsWork}
use Rattle.mh_top_prepare.specs.Warnings.{warnings_of}
use Rattle.mh_top_drive.specs.declared.stop.Cause.{Cause}
use Rattle.mh_top_claims.proofs.Claims.{does_work_without_fault}
use Rattle.mh_top_claims.proofs.FinalOutputOutcome.{yields_end}
use Rattle.mh_top_claims.proofs.WorkOfJob.{work_is}

module _ (p : Prepared) (b a : World) (status : ℕ) where
  listed : (cause : Option Cause) (out : Text) → ListsErrors p.order.comment_expected p.grammar p.tabled.automaton p.tabled.halting cause out → status ≡ status_of cause → Appends b.out a.out out → Appends b.err a.err (warnings_of p ++ last_line_of cause) → ErrorListOutcome p b a status
  listed cause out (Lists none cause_is list) is on_out on_err =
      let err : Appends b.err a.err (warnings_of p ++ []) = subst (λ (c : Option Cause). Appends b.err a.err (warnings_of p ++ last_line_of c)) cause_is on_err in
      Listed none (is ∙ ap status_of cause_is) out list on_out (subst (λ (t : Text). Appends b.err a.err t) (append-nil (warnings_of p)) err)
  listed cause out (TooLong s long cause_is none) is on_out on_err =
      Refused s long (is ∙ ap status_of cause_is) (subst (λ (t : Text). Appends b.out a.out t) none on_out) (subst (λ (c : Option Cause). Appends b.err a.err (warnings_of p ++ last_line_of c)) cause_is on_err)

module _ (words : List Text) (b a : World) (status : ℕ) where
  done : (files : Files) → b.files ≡ Some files → (p : Prepared) → AsksForErrorList words (Some files) p → DoesWork words b a status → ErrorListOutcome p b a status
  done files told p asks does =
      let work = work_is words files p ListErrors (Errors p) (λ plan is. is) asks.prepared asks.job asks.accepted (λ e. cc) does.work (subst (λ (x : Option Files). IsWork words x does.work) told does.is_asked) in
      let yields : HasOutcome plan_behavior (Ends (Errors p)) b.left does.outcome = subst (λ (l : Plan). HasOutcome plan_behavior l b.left does.outcome) work.1 does.yields in
      let list : ListsErrors p.order.comment_expected p.grammar p.tabled.automaton p.tabled.halting does.outcome.cause does.outcome.out = yields_end (Errors p) b.left does.outcome yields in
      listed p b a status does.outcome.cause does.outcome.out list does.status_is does.on_out (subst (λ (t : Text). Appends b.err a.err (t ++ last_line_of does.outcome.cause)) work.0 does.on_err)

  pub lists_exactly : runs.Ran words b a status → ListsErrorsExactly words b a status
  lists_exactly ran calm files told p asks = or (does_work_without_fault words b a status ran calm)
    where
      or : (status ≡ 6) ⊎ DoesWork words b a status → (status ≡ 6) ⊎ ErrorListOutcome p b a status
      or (inl six) = inl six
      or (inr does) = inr (done files told p asks does)
