-- Proves the claim on examined messages files from the definition of a run.
use Rattle.std.proofs.Common.{◌≡◌, ◌⊎◌, inl, inr, ℕ, Bool, true, false, ◌&&◌, List, [], ◌∷◌, ◌++◌, Option, Some, refl, sym, ◌∙◌, ap, subst}
use Rattle.std.proofs.lemmas.List.{append-nil}
use Rattle.std.specs.Io.KnownBytes.{Appends}
use Rattle.mh_grammar.specs.Text.{Text}
use Rattle.mh_msgfile.specs.declared.blocks.LooseBlocks.{LooseBlocks}
use Rattle.mh_lint_messages.proofs.IsFaultless.{faultless_exactly}
use Rattle.mh_opts.specs.declared.jobs.Job.{Job}
use Rattle.mh_opts.specs.declared.jobs.Job.TheVariants.{CheckErrors}
use Rattle.mh_outside.specs.Shelf.{Files, Bytes}
use Rattle.mh_top_drive.specs.FileContents.{IsFileContent}
use Rattle.mh_top_drive.specs.StageResults.{StageResult, Go, Halt}
use Rattle.mh_top_drive.specs.Statuses.{last_line_of, status_of}
use Rattle.mh_top_drive.specs.ModeBehavior.{HasOutcome}
use Rattle.mh_top_drive.specs.declared.stop.Cause.{Cause}
use Rattle.mh_top_claims.specs.CheckedErrors.{AsksForCheckedErrors, CheckedErrorsOutcome, ChecksErrorsExactly, Refused, Written}
use Rattle.mh_top_plans.specs.MessagesFiles.{AreLooseBlocks}
use Rattle.mh_top_plans.specs.ErrorsChecked.{ChecksErrors, Checks, TooLong, cause_of_lines}
use Rattle.mh_top_plans.specs.Plan.{Plan, IsPlanOfJob, Ends, Checked, plan_behavior, plan_of_stage}
use Rattle.mh_top_plans.proofs.FilesOfMode.{file_once}
use Rattle.mh_top_plans.proofs.FileBlocks.{blocks_facts}
use Rattle.mh_top_claims.specs.Run.{World, DoesWork}
use Rattle.mh_top_claims.specs.Run as runs
use Rattle.mh_top_drive.specs.Shapes.{Prepared}
use Rattle.mh_top_claims.specs.Work.{Work, IsPlanUnlessRefused, IsWork, IsWorkOf}
use Rattle.mh_top_prepare.specs.Warnings.{has_warning, warnings_of}
use Rattle.mh_top_claims.proofs.Claims.{does_work_without_fault}
use Rattle.mh_top_claims.proofs.FinalOutputOutcome.{yields_end}
use Rattle.mh_top_claims.proofs.PreparedUnique.{prepared_once}
use Rattle.mh_top_claims.proofs.PreparedWork.{prepared_work}

-- Lines add nothing to err.
no_last_line : (lines : Text) → last_line_of (cause_of_lines lines) ≡ []
no_last_line [] = refl
no_last_line (byte ∷ bytes) = refl

module _ (words : List Text) (files : Files) (p : Prepared) (name bytes : Text) (blocks : LooseBlocks) (asks : AsksForCheckedErrors words files p name bytes blocks) where
  abbrev plan : Plan
  plan = Ends (Checked name blocks p)

  -- The named file has exactly these blocks.
  content : IsFileContent (Some files) AreLooseBlocks name (Go blocks)
  content = (Go bytes, (Bytes bytes, asks.found, refl), asks.has)

  plan_of : (refused : Bool) (given : Plan) → refused ≡ false → IsPlanUnlessRefused refused (Some files) p given → given ≡ plan
  plan_of true given accepted is = absurd (cc)
  plan_of false given accepted is =
      let of_job : IsPlanOfJob (CheckErrors name) (Some files) p given = subst (λ (j : Job). IsPlanOfJob j (Some files) p given) asks.job is in
      let same : of_job.0 ≡ Go blocks = file_once AreLooseBlocks blocks_facts files name of_job.0 (Go blocks) of_job.1 content in
      of_job.2 ∙ ap (plan_of_stage (λ (found : LooseBlocks). Ends (Checked name found p))) same

  work_at : (s : StageResult Prepared) (w : Work) → s ≡ Go p → IsWorkOf (Some files) s w → (w.warnings ≡ warnings_of p) × (w.plan ≡ plan)
  work_at (Go q) w same is =
      let one : q ≡ p = cc in
      let at : IsWorkOf (Some files) (Go p) w = subst (λ (x : Prepared). IsWorkOf (Some files) (Go x) w) one is in
      (at.0, plan_of (p.order.strict && has_warning p.tabled.conflicts) w.plan asks.accepted at.1)
  work_at (Halt cause) w same is = absurd (cc)

  work_is : (w : Work) → IsWork words (Some files) w → (w.warnings ≡ warnings_of p) × (w.plan ≡ plan)
  work_is w asked =
      let is = prepared_work words (Some files) p asks.prepared (λ e. (let never = sym asks.job ∙ e in cc)) w asked in
      work_at is.0 w (prepared_once words files is.0 (Go p) is.1 asks.prepared) is.2

  module _ (b a : World) (status : ℕ) where
    outcome : (cause : Option Cause) (out : Text) → ChecksErrors p.grammar p.tabled.halting name blocks cause out → status ≡ status_of cause → Appends b.out a.out out → Appends b.err a.err (warnings_of p ++ last_line_of cause) → CheckedErrorsOutcome p name bytes blocks b a status
    outcome cause out (Checks none cause_is is) status_is on_out on_err =
        let err : Appends b.err a.err (warnings_of p ++ []) = subst (λ (l : Text). Appends b.err a.err (warnings_of p ++ l)) (ap last_line_of cause_is ∙ no_last_line out) on_err in
        Written out is (faultless_exactly p.grammar p.tabled.halting bytes name out blocks asks.has is) (status_is ∙ ap status_of cause_is) on_out
        (subst (λ (t : Text). Appends b.err a.err t) (append-nil (warnings_of p)) err)
    outcome cause out (TooLong s long cause_is none) status_is on_out on_err =
        Refused s long (status_is ∙ ap status_of cause_is) (subst (λ (t : Text). Appends b.out a.out t) none on_out) (subst (λ (c : Option Cause). Appends b.err a.err (warnings_of p ++ last_line_of c)) cause_is on_err)

    pub done : b.files ≡ Some files → DoesWork words b a status → CheckedErrorsOutcome p name bytes blocks b a status
    done known does =
        let work = work_is does.work (subst (λ x. IsWork words x does.work) known does.is_asked) in
        let yields : HasOutcome plan_behavior plan b.left does.outcome = subst (λ (l : Plan). HasOutcome plan_behavior l b.left does.outcome) work.1 does.yields in
        let end : ChecksErrors p.grammar p.tabled.halting name blocks does.outcome.cause does.outcome.out = yields_end (Checked name blocks p) b.left does.outcome yields in
        outcome does.outcome.cause does.outcome.out end does.status_is does.on_out (subst (λ (t : Text). Appends b.err a.err (t ++ last_line_of does.outcome.cause)) work.0 does.on_err)

module _ (words : List Text) (b a : World) (status : ℕ) where
  pub checks_exactly : runs.Ran words b a status → ChecksErrorsExactly words b a status
  checks_exactly ran calm files known p name bytes blocks asks = or (does_work_without_fault words b a status ran calm)
    where
      or : (status ≡ 6) ⊎ DoesWork words b a status → (status ≡ 6) ⊎ CheckedErrorsOutcome p name bytes blocks b a status
      or (inl six) = inl six
      or (inr does) = inr (done words files p name bytes blocks asks b a status known does)
