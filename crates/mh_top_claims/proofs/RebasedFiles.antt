-- Proves the claim on rebased messages files from the definition of a run.
use Rattle.std.proofs.Common.{◌≡◌, ◌⊎◌, inl, inr, ℕ, Bool, true, false, ◌&&◌, List, [], ◌++◌, Option, Some, refl, sym, ◌∙◌, ap, subst}
use Rattle.std.proofs.lemmas.List.{append-nil}
use Rattle.std.specs.Io.KnownBytes.{Appends}
use Rattle.mh_grammar.specs.Text.{Text}
use Rattle.mh_msgfile.specs.declared.loose.LooseFile.{LooseFile}
use Rattle.mh_opts.specs.declared.jobs.Job.{Job}
use Rattle.mh_opts.specs.declared.jobs.Job.TheVariants.{RebaseErrors}
use Rattle.mh_outside.specs.Shelf.{Files, Bytes}
use Rattle.mh_rebase.specs.ReadAgain.{HasNoCr}
use Rattle.mh_rebase.proofs.IsReadAgain.{reread}
use Rattle.mh_top_drive.specs.FileContents.{IsFileContent}
use Rattle.mh_top_drive.specs.StageResults.{StageResult, Go, Halt}
use Rattle.mh_top_drive.specs.Statuses.{last_line_of, status_of}
use Rattle.mh_top_drive.specs.ModeBehavior.{HasOutcome}
use Rattle.mh_top_drive.specs.declared.stop.Cause.{Cause}
use Rattle.mh_top_claims.specs.RebasedFiles.{AsksForRebasedFile, RebasedOutcome, RebasesSoundly, Refused, Written}
use Rattle.mh_top_plans.specs.MessagesFiles.{IsLooseFile}
use Rattle.mh_top_plans.specs.Rebased.{RebasesFile, Rebases, TooLong}
use Rattle.mh_top_plans.specs.Plan.{Plan, IsPlanOfJob, Ends, Rebased, plan_behavior, plan_of_stage}
use Rattle.mh_top_plans.proofs.FilesOfMode.{file_once}
use Rattle.mh_top_plans.proofs.LooseFiles.{loose_facts}
use Rattle.mh_top_claims.specs.Run.{World, DoesWork}
use Rattle.mh_top_claims.specs.Run as runs
use Rattle.mh_top_drive.specs.Shapes.{Prepared}
use Rattle.mh_top_claims.specs.Work.{Work, IsPlanUnlessRefused, IsWork, IsWorkOf}
use Rattle.mh_top_prepare.specs.Warnings.{has_warning, warnings_of}
use Rattle.mh_top_claims.proofs.Claims.{does_work_without_fault}
use Rattle.mh_top_claims.proofs.FinalOutputOutcome.{yields_end}
use Rattle.mh_top_claims.proofs.HasFileNames.{without_line_ends}
use Rattle.mh_top_claims.proofs.PreparedSource.{made}
use Rattle.mh_top_claims.proofs.PreparedUnique.{prepared_once}
use Rattle.mh_top_claims.proofs.PreparedWork.{prepared_work}
use Rattle.mh_top_claims.proofs.VerdictClaims.{prepared_runs}

module _ (words : List Text) (files : Files) (p : Prepared) (file : LooseFile) (asks : AsksForRebasedFile words files p file) where
  abbrev plan : Plan
  plan = Ends (Rebased file p)

  -- The named file has exactly these entries.
  content : IsFileContent (Some files) IsLooseFile asks.name (Go file)
  content = (Go asks.bytes, (Bytes asks.bytes, asks.found, refl), asks.spells)

  plan_of : (refused : Bool) (given : Plan) → refused ≡ false → IsPlanUnlessRefused refused (Some files) p given → given ≡ plan
  plan_of true given accepted is = absurd (cc)
  plan_of false given accepted is =
      let of_job : IsPlanOfJob (RebaseErrors asks.name) (Some files) p given = subst (λ (j : Job). IsPlanOfJob j (Some files) p given) asks.job is in
      let same : of_job.0 ≡ Go file = file_once IsLooseFile loose_facts files asks.name of_job.0 (Go file) of_job.1 content in
      of_job.2 ∙ ap (plan_of_stage (λ (loose : LooseFile). Ends (Rebased loose p))) same

  work_at : (s : StageResult Prepared) (w : Work) → s ≡ Go p → IsWorkOf (Some files) s w → (w.warnings ≡ warnings_of p) × (w.plan ≡ plan)
  work_at (Go q) w same is =
      let one : q ≡ p = cc in
      let at : IsWorkOf (Some files) (Go p) w = subst (λ (x : Prepared). IsWorkOf (Some files) (Go x) w) one is in
      (at.0, plan_of (p.order.strict && has_warning p.tabled.conflicts) w.plan asks.accepted at.1)
  work_at (Halt cause) w same is = absurd (cc)

  work_is : (w : Work) → IsWork words (Some files) w → (w.warnings ≡ warnings_of p) × (w.plan ≡ plan)
  work_is w asked =
      let is = prepared_work words (Some files) p asks.prepared (λ e. (let never = sym asks.job ∙ e in cc)) w asked in
      work_at is.0 w (prepared_once words files is.0 (Go p) is.1 asks.prepared) is.2

  module _ (b a : World) (status : ℕ) (free : HasNoCr file) where
    outcome : (cause : Option Cause) (out : Text) → RebasesFile p.order.comment_expected p.grammar p.tabled.automaton p.tabled.halting file cause out → status ≡ status_of cause → Appends b.out a.out out → Appends b.err a.err (warnings_of p ++ last_line_of cause) → RebasedOutcome p file b a status
    outcome cause out (Rebases none cause_is is) status_is on_out on_err =
        let err : Appends b.err a.err (warnings_of p ++ []) = subst (λ (c : Option Cause). Appends b.err a.err (warnings_of p ++ last_line_of c)) cause_is on_err in
        let ready = prepared_runs words (Some files) p asks.prepared in
        let names = (made words (Some files) p asks.prepared).ready.names in
        let again = reread p.order.comment_expected p.grammar p.tabled.automaton p.tabled.halting ready.halts.facts ready.consistent.table.grammar names.readable (without_line_ends p.grammar names) asks.bytes file asks.spells free out is in
        Written none (status_is ∙ ap status_of cause_is) out again on_out (subst (λ (t : Text). Appends b.err a.err t) (append-nil (warnings_of p)) err)
    outcome cause out (TooLong s long cause_is none) status_is on_out on_err =
        Refused s long (status_is ∙ ap status_of cause_is) (subst (λ (t : Text). Appends b.out a.out t) none on_out) (subst (λ (c : Option Cause). Appends b.err a.err (warnings_of p ++ last_line_of c)) cause_is on_err)

    pub done : b.files ≡ Some files → DoesWork words b a status → RebasedOutcome p file b a status
    done known does =
        let work = work_is does.work (subst (λ x. IsWork words x does.work) known does.is_asked) in
        let yields : HasOutcome plan_behavior plan b.left does.outcome = subst (λ (l : Plan). HasOutcome plan_behavior l b.left does.outcome) work.1 does.yields in
        let end : RebasesFile p.order.comment_expected p.grammar p.tabled.automaton p.tabled.halting file does.outcome.cause does.outcome.out = yields_end (Rebased file p) b.left does.outcome yields in
        outcome does.outcome.cause does.outcome.out end does.status_is does.on_out (subst (λ (t : Text). Appends b.err a.err (t ++ last_line_of does.outcome.cause)) work.0 does.on_err)

module _ (words : List Text) (b a : World) (status : ℕ) where
  pub rebases_soundly : runs.Ran words b a status → RebasesSoundly words b a status
  rebases_soundly ran calm files known p file asks free = or (does_work_without_fault words b a status ran calm)
    where
      or : (status ≡ 6) ⊎ DoesWork words b a status → (status ≡ 6) ⊎ RebasedOutcome p file b a status
      or (inl six) = inl six
      or (inr does) = inr (done words files p file asks b a status free known does)
