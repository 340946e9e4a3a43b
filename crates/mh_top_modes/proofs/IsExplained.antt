-- The final text of the code for a sentence meets its definition, for each verdict.
use Rattle.std.proofs.Common.{◌≡◌, inl, inr, ℕ, ◌+◌, List, length, Result, Ok, Err, refl, sym, ◌∙◌, ap, subst}
use Rattle.std.specs.Prelude.{IfOk}
use Rattle.mh_grammar.specs.declared.types.Memory.{Memory}
use Rattle.mh_grammar.specs.declared.types.Sentence.{Sentence}
use Rattle.mh_tables_core.specs.Run.{Accepted, Overshot, Rejected, VerdictOf}
use Rattle.mh_run.specs.Verdicts.{ending_for}
use Rattle.mh_run.specs.declared.outcome.Verdict.{Verdict}
use Rattle.mh_run.specs.declared.outcome.Verdict.TheVariants as verdicts
use Rattle.mh_check.specs.Texts.{ending_text, early_text}
use Rattle.mh_report.specs.Comments.{IsEntryText}
use Rattle.mh_grammar.specs.Text.{Text}
use Rattle.mh_top_plans.specs.Explained.{IsExplainedSentence, input_refusal}
use Rattle.mh_top_drive.specs.Shapes.{Prepared}
use Rattle.mh_top_plans.specs.declared.at_end.FinalText.{FinalText}
use Rattle.mh_top_plans.specs.declared.at_end.FinalText.TheVariants.{Written}

module _ (p : Prepared) (s : Sentence) (ts : List ℕ) (same : ts ≡ s.tokens) (v : Verdict) (is : VerdictOf p.tabled.halting s.start ts (ending_for v)) where
  there : (w : Verdict) → v ≡ w → VerdictOf p.tabled.halting s.start s.tokens (ending_for w)
  there w e = subst (λ (u : Verdict). VerdictOf p.tabled.halting s.start s.tokens (ending_for u)) e (subst (λ (l : List ℕ). VerdictOf p.tabled.halting s.start l (ending_for v)) same is)

  pub explained_last : (at state : ℕ) → v ≡ verdicts.Reject at state → at + 1 ≡ length ts → (text : Text) → IsEntryText p.order.comment_expected p.grammar p.tabled.automaton p.tabled.halting s.start s.tokens text → IsExplainedSentence p s (Written text)
  explained_last at state e last text entry = (Rejected at state, there (verdicts.Reject at state) e, inl (last ∙ ap length same, text, entry, refl))

  pub explained_at_place : (at state : ℕ) → v ≡ verdicts.Reject at state → (at + 1 ≡ length ts → ⊥) → (r : Result FinalText Memory) → IfOk r (λ told. told ≡ input_refusal (early_text at)) → IfOk r (λ told. IsExplainedSentence p s told)
  explained_at_place at state e other (Ok told) told_is = (Rejected at state, there (verdicts.Reject at state) e, inr ((λ last. other (last ∙ sym (ap length same))), told_is))
  explained_at_place at state e other (Err memory) told_is = tt

  pub explained_accepted : (read : ℕ) → v ≡ verdicts.Accept read → (r : Result FinalText Memory) → IfOk r (λ told. told ≡ input_refusal (ending_text (ending_for v))) → IfOk r (λ told. IsExplainedSentence p s told)
  explained_accepted read e (Ok told) told_is = (Accepted read, there (verdicts.Accept read) e, told_is ∙ ap (λ (u : Verdict). input_refusal (ending_text (ending_for u))) e)
  explained_accepted read e (Err memory) told_is = tt

  pub explained_overshot : (state : ℕ) → v ≡ verdicts.Overshoot state → (r : Result FinalText Memory) → IfOk r (λ told. told ≡ input_refusal (ending_text (ending_for v))) → IfOk r (λ told. IsExplainedSentence p s told)
  explained_overshot state e (Ok told) told_is = (Overshot state, there (verdicts.Overshoot state) e, told_is ∙ ap (λ (u : Verdict). input_refusal (ending_text (ending_for u))) e)
  explained_overshot state e (Err memory) told_is = tt
