-- Proves what the program does for a command line (`words`) whose job only writes a final output: the program writes
-- the warnings of the grammar, and then this output.
use Rattle.std.proofs.Common.{◌≡◌, Bool, true, false, ◌&&◌, List, Option, Some, sym, ◌∙◌, subst}
use Rattle.mh_opts.specs.declared.jobs.Job.{Job}
use Rattle.mh_opts.specs.declared.jobs.Job.TheVariants.{Check}
use Rattle.mh_outside.specs.Shelf.{Files}
use Rattle.mh_top_drive.specs.StageResults.{StageResult, Go, Halt}
use Rattle.mh_top_plans.specs.Plan.{Plan, FinalOutput, IsPlanOfJob, Ends}
use Rattle.mh_top_drive.specs.Shapes.{Prepared}
use Rattle.mh_grammar.specs.Text.{Text}
use Rattle.mh_top_claims.specs.Preparing.{IsPrepared}
use Rattle.mh_top_claims.specs.Work.{Work, IsPlanUnlessRefused, IsWork, IsWorkOf}
use Rattle.mh_top_prepare.specs.Warnings.{has_warning, warnings_of}
use Rattle.mh_top_claims.proofs.PreparedUnique.{prepared_once}
use Rattle.mh_top_claims.proofs.PreparedWork.{prepared_work}

-- The plan that the words ask for is the plan of the job.
plan_of : (job : Job) (end : FinalOutput) (files : Option Files) (p : Prepared) → ((plan : Plan) → IsPlanOfJob job files p plan → plan ≡ Ends end) → (refused : Bool) (plan : Plan) → refused ≡ false → p.order.job ≡ job → IsPlanUnlessRefused refused files p plan → plan ≡ Ends end
plan_of job end files p planned true plan accepted same is = absurd (cc)
plan_of job end files p planned false plan accepted same is = planned plan (subst (λ (j : Job). IsPlanOfJob j files p plan) same is)

module _ (words : List Text) (files : Files) (p : Prepared) (job : Job) (end : FinalOutput) (planned : (plan : Plan) → IsPlanOfJob job (Some files) p plan → plan ≡ Ends end)
    (prepared : IsPrepared words (Some files) (Go p)) (same_job : p.order.job ≡ job) (accepted : (p.order.strict && has_warning p.tabled.conflicts) ≡ false) (other : job ≡ Check → ⊥) where
  work_at : (s : StageResult Prepared) (w : Work) → s ≡ Go p → IsWorkOf (Some files) s w → (w.warnings ≡ warnings_of p) × (w.plan ≡ Ends end)
  work_at (Go q) w same is =
      let one : q ≡ p = cc in
      let at : IsWorkOf (Some files) (Go p) w = subst (λ (x : Prepared). IsWorkOf (Some files) (Go x) w) one is in
      (at.0, plan_of job end (Some files) p planned (p.order.strict && has_warning p.tabled.conflicts) w.plan accepted same_job at.1)
  work_at (Halt cause) w same is = absurd (cc)

  -- The work that the words ask for has the warnings of the grammar, and the plan of the job.
  pub work_is : (w : Work) → IsWork words (Some files) w → (w.warnings ≡ warnings_of p) × (w.plan ≡ Ends end)
  work_is w asked =
      let is = prepared_work words (Some files) p prepared (λ e. other (sym same_job ∙ e)) w asked in
      work_at is.0 w (prepared_once words files is.0 (Go p) is.1 prepared) is.2
