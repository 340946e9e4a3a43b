-- Lemmas on the answer to each line in a text for several lines. Also proves that for each result of the preparation,
-- and of the examination of grammar files, there is some work that the definitions allow.
use Rattle.std.proofs.Common.{◌≡◌, Bool, true, false, ◌&&◌, List, [], ◌∷◌, ◌++◌, Option, refl, sym, ◌∙◌, ap, subst, append_assoc}
use Rattle.mh_outside.specs.Shelf.{Files}
use Rattle.mh_grammar.specs.Text.{Text}
use Rattle.mh_top_drive.specs.StageResults.{StageResult, Go, Halt}
use Rattle.mh_top_plans.specs.Verdicts.{VerdictContext}
use Rattle.mh_top_plans.specs.Plan.{Plan, Judges, Answers, plan_behavior}
use Rattle.mh_top_drive.specs.ModeBehavior.{AnswersAll}
use Rattle.mh_top_claims.specs.AnswerAtLine.{IsAnsweredAt, HasVerdictAt}
use Rattle.mh_top_claims.specs.Work.{Examining, NeedsTable, WithTable, Work, IsPlanUnlessRefused, IsWork, IsWorkOf}
use Rattle.mh_top_prepare.specs.Warnings.{has_warning}
use Rattle.mh_top_claims.specs.Preparing.{IsPrepared}
use Rattle.mh_top_drive.specs.Shapes.{Prepared}
use Rattle.mh_top_plans.proofs.FilesOfMode.{PreparedFacts}
use Rattle.mh_top_claims.proofs.EachMode.{mode_facts}
use Rattle.mh_top_claims.proofs.PreparedWork.{job_needs}
use Rattle.mh_opts.specs.declared.jobs.Job.TheVariants.{Check}
use Rattle.mh_opts.specs.declared.order.Order.{Order}
use Rattle.mh_top_check.specs.Examination.{AreExamined, Examined, plan_of_check}
use Rattle.mh_top_load.specs.Order.{staged_order}
use Rattle.mh_top_claims.proofs.VerdictClaims.{prepared_runs}

pub answered_at : (plan last : Plan) (before : List Text) (line : Text) (after : List Text) (text : Text) → AnswersAll plan_behavior plan (before ++ line ∷ after) text last → IsAnsweredAt plan before line after text last
answered_at plan last [] line after text all = record { text_before = []; answer = all.0; text_after = all.1; plan_at_line = plan; next = all.2; all_before = (refl, refl); answers = all.3; all_after = all.4; text_is = all.5 }
answered_at plan last (first ∷ before) line after text all =
    let at = answered_at all.2 last before line after all.1 all.4 in
    record {
      text_before = all.0 ++ at.text_before;
      answer = at.answer;
      text_after = at.text_after;
      plan_at_line = at.plan_at_line;
      next = at.next;
      all_before = (all.0, at.text_before, all.2, all.3, at.all_before, refl);
      answers = at.answers;
      all_after = at.all_after;
      text_is = all.5 ∙ ap (λ (t : Text). all.0 ++ t) at.text_is ∙ sym (append_assoc all.0 at.text_before (at.answer ++ at.text_after));
    }

still_judges : (by : VerdictContext) (lines : List Text) (text : Text) (last : Plan) → AnswersAll plan_behavior (Judges by) lines text last → last ≡ Judges by
still_judges by [] text last all = all.1
still_judges by (line ∷ lines) text last all = still_judges by lines all.1 last (subst (λ (m : Plan). AnswersAll plan_behavior m lines all.1 last) all.3.1 all.4)

pub verdict_at : (by : VerdictContext) (last : Plan) (before : List Text) (line : Text) (after : List Text) (text : Text) → AnswersAll plan_behavior (Judges by) (before ++ line ∷ after) text last → HasVerdictAt by before line after text
verdict_at by last before line after text all =
    let at = answered_at (Judges by) last before line after text all in
    let same : at.plan_at_line ≡ Judges by = still_judges by before at.text_before at.plan_at_line at.all_before in
    record {
      text_before = at.text_before;
      answer = at.answer;
      text_after = at.text_after;
      all_before = subst (λ (m : Plan). AnswersAll plan_behavior (Judges by) before at.text_before m) same at.all_before;
      answers = (subst (λ (m : Plan). Answers m line at.answer at.next) same at.answers).0;
      text_is = at.text_is;
    }

plan_unless : (refused : Bool) (files : Option Files) (p : Prepared) → (p.order.job ≡ Check → ⊥) → PreparedFacts p → (plan : Plan) × IsPlanUnlessRefused refused files p plan
plan_unless true files p other runs = (_, refl)
plan_unless false files p other runs = (mode_facts p.order.job other p).some files runs

work_of : (words : List Text) (files : Option Files) → NeedsTable words → (s : StageResult Prepared) → IsPrepared words files s → (w : Work) × IsWorkOf files s w
work_of words files needs (Go p) is = let plan = plan_unless (p.order.strict && has_warning p.tabled.conflicts) files p (job_needs words files p is needs) (prepared_runs words files p is) in (record { warnings = _; plan = plan.0 }, (refl, plan.1))
work_of words files needs (Halt cause) is = (_, refl)

pub some_work : (words : List Text) (files : Option Files) → NeedsTable words → (s : StageResult Prepared) → IsPrepared words files s → (w : Work) × IsWork words files w
some_work words files needs s is = let w = work_of words files needs s is in (w.0, WithTable needs (s, is, w.1))

pub some_check_work : (words : List Text) (files : Option Files) (order : Order) (s : StageResult Examined) → staged_order words ≡ Go order → order.job ≡ Check → AreExamined files order s → (w : Work) × IsWork words files w
some_check_work words files order s on job are = (record { warnings = []; plan = plan_of_check order s }, Examining order on job (record { warnings = refl; plan = (s, are, refl) }))
