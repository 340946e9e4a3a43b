-- The outcome of a mode that asks for no line is its end.
use Rattle.std.proofs.Common.{◌≡◌, Bool, true, List, [], ◌++◌, Option, None, sym, ◌∙◌, ap, subst}
use Rattle.mh_grammar.specs.Text.{Text}
use Rattle.mh_top_drive.specs.ModeBehavior.{ModeEnd, AnswersAll, AreAskedLines, EndsAfterAnswers, Outcome, HasOutcome}
use Rattle.mh_top_drive.specs.declared.driving.Asks.TheVariants.{NoLine}
use Rattle.mh_top_drive.specs.declared.stop.Cause.{Cause}
use Rattle.mh_top_plans.specs.Plan.{Plan, FinalOutput, IsFinalOutput, EndsWith, Ends, plan_behavior}

module _ (end : FinalOutput) where
  ends_alone : (lines : List Text) (text : Text) (last : Plan) (complete : Bool) (cause : Option Cause) (out : Text) → AreAskedLines NoLine None lines complete → AnswersAll plan_behavior (Ends end) lines text last → EndsAfterAnswers plan_behavior complete last text cause out → IsFinalOutput end (record { cause = cause; out = out })
  ends_alone lines text last complete cause out asks answers ends =
      let none : AnswersAll plan_behavior (Ends end) [] text last = subst (λ (l : List Text). AnswersAll plan_behavior (Ends end) l text last) asks.0 answers in
      let all : EndsAfterAnswers plan_behavior true last text cause out = subst (λ (b : Bool). EndsAfterAnswers plan_behavior b last text cause out) asks.1 ends in
      let e = all.0 in
      let is : EndsWith (Ends end) e = subst (λ (l : Plan). EndsWith l e) none.1 all.1 in
      let out_is : out ≡ e.out = all.3 ∙ ap (λ (t : Text). t ++ e.out) none.0 in
      let same : e ≡ record { cause = cause; out = out } = (λ i. record { cause = sym all.2 i; out = sym out_is i }) in
      subst (λ (x : ModeEnd). IsFinalOutput end x) same is

  pub yields_end : (input : Option Text) (o : Outcome) → HasOutcome plan_behavior (Ends end) input o → IsFinalOutput end (record { cause = o.cause; out = o.out })
  yields_end input o y = ends_alone y.lines y.text y.last y.complete o.cause o.out y.asks y.answers y.ends
