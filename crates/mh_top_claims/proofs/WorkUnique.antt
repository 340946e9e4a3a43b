-- The work that the words ask for is unique over known files, and its outcome is unique on a known input.
use Rattle.std.proofs.Common.{◌≡◌, Bool, true, false, ◌&&◌, List, [], ◌∷◌, ◌++◌, Option, Some, sym, ◌∙◌, ap, ap₂, subst}
use Rattle.mh_outside.specs.Shelf.{Files}
use Rattle.mh_grammar.specs.Text.{Text}
use Rattle.mh_top_drive.specs.StageResults.{StageResult, Go, Halt}
use Rattle.mh_opts.specs.declared.jobs.Job.TheVariants.{Check}
use Rattle.mh_opts.specs.declared.order.Order.{Order}
use Rattle.mh_top_check.specs.Examination.{plan_of_check}
use Rattle.mh_top_plans.specs.Plan.{Plan, asks_of, plan_behavior}
use Rattle.mh_top_drive.specs.ModeBehavior.{AnswersAll, AreAskedLines, EndsAfterAnswers, Outcome, HasOutcome, input_left}
use Rattle.mh_top_claims.specs.Work.{Examining, IsCheckWork, NeedsTable, WithTable, Work, IsPlanUnlessRefused, IsWork, IsWorkOf}
use Rattle.mh_top_prepare.specs.Warnings.{has_warning}
use Rattle.mh_top_claims.specs.Preparing.{IsPrepared}
use Rattle.mh_top_drive.specs.declared.driving.Asks.{Asks}
use Rattle.mh_top_drive.specs.declared.driving.Asks.TheVariants.{NoLine, FirstLine, EachLine}
use Rattle.mh_top_drive.specs.Shapes.{Prepared}
use Rattle.mh_top_drive.specs.declared.stop.Cause.{Cause}
use Rattle.mh_top_drive.proofs.Then.{IsOne}
use Rattle.mh_top_claims.proofs.PreparedUnique.{prepared_once}
use Rattle.mh_top_claims.proofs.PreparedWork.{job_needs}
use Rattle.mh_top_claims.proofs.ExaminedUnique.{examined_once}
use Rattle.mh_top_claims.proofs.EachMode.{answer_once, cause_once, out_once, mode_facts}

-- ---- The words and the files determine the work.

plan_once : (refused : Bool) (files : Files) (p : Prepared) → (p.order.job ≡ Check → ⊥) → IsOne (IsPlanUnlessRefused refused (Some files) p)
plan_once true files p other x y is so = is ∙ sym so
plan_once false files p other x y is so = (mode_facts p.order.job other p).unique files x y is so

work_of_once : (words : List Text) (files : Files) → NeedsTable words → (s : StageResult Prepared) → IsPrepared words (Some files) s → IsOne (IsWorkOf (Some files) s)
work_of_once words files needs (Go p) prepared w v is so =
    let warnings : w.warnings ≡ v.warnings = is.0 ∙ sym so.0 in
    let plan : w.plan ≡ v.plan = plan_once (p.order.strict && has_warning p.tabled.conflicts) files p (job_needs words (Some files) p prepared needs) w.plan v.plan is.1 so.1 in
    λ i. record { warnings = warnings i; plan = plan i }
work_of_once words files needs (Halt cause) prepared w v is so = is ∙ sym so

check_work_once : (order : Order) (files : Files) (w v : Work) → IsCheckWork order (Some files) w → IsCheckWork order (Some files) v → w ≡ v
check_work_once order files w v p q =
    let warnings : w.warnings ≡ v.warnings = p.warnings ∙ sym q.warnings in
    let plan : w.plan ≡ v.plan = p.plan.2 ∙ ap (plan_of_check order) (examined_once order files p.plan.0 q.plan.0 p.plan.1 q.plan.1) ∙ sym q.plan.2 in
    λ i. record { warnings = warnings i; plan = plan i }

-- The work that the words ask for over known files is unique.
pub work_once : (words : List Text) (files : Files) (w v : Work) → IsWork words (Some files) w → IsWork words (Some files) v → w ≡ v
work_once words files w v (WithTable needs p) (WithTable other q) =
    let same : q.0 ≡ p.0 = prepared_once words files q.0 p.0 q.1 p.1 in work_of_once words files needs p.0 p.1 w v p.2 (subst (λ (s : StageResult Prepared). IsWorkOf (Some files) s v) same q.2)
work_once words files w v (WithTable needs p) (Examining order on job is) = absurd (needs order on job)
work_once words files w v (Examining order on job is) (WithTable needs q) = absurd (needs order on job)
work_once words files w v (Examining order on job is) (Examining other so too are) =
    let same : Go order ≡ Go other = sym on ∙ so in
    let one : order ≡ other = cc in
    check_work_once order files w v is (subst (λ (x : Order). IsCheckWork x (Some files) v) (sym one) are)

-- ---- The work and the input determine the outcome.

answers_once : (plan : Plan) (lines : List Text) (a c : Text) (x y : Plan) → AnswersAll plan_behavior plan lines a x → AnswersAll plan_behavior plan lines c y → (a ≡ c) × (x ≡ y)
answers_once plan [] a c x y p q = (p.0 ∙ sym q.0, p.1 ∙ sym q.1)
answers_once plan (line ∷ lines) a c x y p q =
    let first = answer_once line plan p.0 q.0 p.2 q.2 p.3 q.3 in
    let rest = answers_once p.2 lines p.1 q.1 x y p.4 (subst (λ (m : Plan). AnswersAll plan_behavior m lines q.1 y) (sym first.1) q.4) in
    (p.5 ∙ ap₂ (λ (t u : Text). t ++ u) first.0 rest.0 ∙ sym q.5, rest.1)

asks_once : (asks : Asks) (input : Text) (lines lines' : List Text) (whole whole' : Bool) → AreAskedLines asks (Some input) lines whole → AreAskedLines asks (Some input) lines' whole' → (lines ≡ lines') × (whole ≡ whole')
asks_once NoLine input lines lines' whole whole' p q = (p.0 ∙ sym q.0, p.1 ∙ sym q.1)
asks_once FirstLine input lines lines' whole whole' p q = (sym p.0 ∙ q.0, sym p.1 ∙ q.1)
asks_once EachLine input lines lines' whole whole' p q = (sym p.0 ∙ q.0, sym p.1 ∙ q.1)

EndsAfterAnswers-once : (whole : Bool) (plan : Plan) (text : Text) (c d : Option Cause) (t u : Text) → EndsAfterAnswers plan_behavior whole plan text c t → EndsAfterAnswers plan_behavior whole plan text d u → (c ≡ d) × (t ≡ u)
EndsAfterAnswers-once true plan text c d t u p q =
    (p.2 ∙ cause_once plan p.0 q.0 p.1 q.1 ∙ sym q.2, p.3 ∙ ap (λ (out : Text). text ++ out) (out_once plan p.0 q.0 p.1 q.1) ∙ sym q.3)
EndsAfterAnswers-once false plan text c d t u p q = (p.0 ∙ sym q.0, p.1 ∙ sym q.1)

pub outcome_once : (plan : Plan) (input : Text) (o r : Outcome) → HasOutcome plan_behavior plan (Some input) o → HasOutcome plan_behavior plan (Some input) r → o ≡ r
outcome_once plan input o r p q =
    let asks = asks_once (asks_of plan) input q.lines p.lines q.complete p.complete q.asks p.asks in
    let all = answers_once plan p.lines p.text q.text p.last q.last p.answers (subst (λ (l : List Text). AnswersAll plan_behavior plan l q.text q.last) asks.0 q.answers) in
    let ends : EndsAfterAnswers plan_behavior p.complete p.last p.text r.cause r.out =
    subst (λ (w : Bool). EndsAfterAnswers plan_behavior w p.last p.text r.cause r.out) asks.1 (subst (λ (t : Text). EndsAfterAnswers plan_behavior q.complete p.last t r.cause r.out) (sym all.0) (subst (λ (l : Plan). EndsAfterAnswers plan_behavior q.complete l q.text r.cause r.out) (sym all.1) q.ends)) in
    let same = EndsAfterAnswers-once p.complete p.last p.text o.cause r.cause o.out r.out p.ends ends in
    let left : o.left ≡ r.left = p.left_is ∙ ap₂ (λ (w : Bool) (l : List Text). input_left (Some input) w l) (sym asks.1) (sym asks.0) ∙ sym q.left_is in
    λ i. record { cause = same.0 i; out = same.1 i; left = left i }

pub run_once : (words : List Text) (files : Files) (input : Text) (v w : Work) (o p : Outcome) → IsWork words (Some files) v → HasOutcome plan_behavior v.plan (Some input) o → IsWork words (Some files) w → HasOutcome plan_behavior w.plan (Some input) p → (v ≡ w) × (o ≡ p)
run_once words files input v w o p is yields is' yields' =
    let same = work_once words files v w is is' in
    (same, outcome_once v.plan input o p yields (subst (λ (x : Work). HasOutcome plan_behavior x.plan (Some input) p) (sym same) yields'))
