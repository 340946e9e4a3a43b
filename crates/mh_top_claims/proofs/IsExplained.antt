-- The final text for the first line of `--interpret-error` is unique.
use Rattle.std.proofs.Common.{◌≡◌, inl, inr, sym, ◌∙◌, ap, subst}
use Rattle.mh_grammar.specs.declared.types.Sentence.{Sentence}
use Rattle.mh_tables_core.specs.Run.{Ending, Accepted, Overshot, Rejected, initial}
use Rattle.mh_tables_core.proofs.RunEnds.{ending_unique}
use Rattle.mh_report.proofs.OneCommentText.{entry_once}
use Rattle.mh_msgfile.specs.Sentences.{LineResult, IsSentence, IsUnreadable, NamesNoStart, LacksStart, NamesUnknown, sentence_in, vocabulary_of}
use Rattle.mh_grammar.specs.Text.{Text}
use Rattle.mh_top_plans.specs.Explained.{IsExplained, IsExplainedBy, IsExplainedFound}
use Rattle.mh_top_drive.specs.Shapes.{Prepared}
use Rattle.mh_top_plans.specs.declared.at_end.FinalText.{FinalText}
use Rattle.mh_top_plans.specs.declared.at_end.FinalText.TheVariants.{Written}

module _ (p : Prepared) where
  by_once : (s : Sentence) (how : Ending) (a b : FinalText) → IsExplainedBy p s how a → IsExplainedBy p s how b → a ≡ b
  by_once s (Accepted read) a b x y = x ∙ sym y
  by_once s (Overshot state) a b x y = x ∙ sym y
  by_once s (Rejected at state) a b (inl (last, text, is, told)) (inl (last', text', is', told')) = told ∙ ap (λ (t : Text). Written t) (entry_once p.grammar p.tabled.automaton p.tabled.halting p.order.comment_expected s.start s.tokens text text' is is') ∙ sym told'
  by_once s (Rejected at state) a b (inl (last, text, is, told)) (inr (early, told')) = absurd (early last)
  by_once s (Rejected at state) a b (inr (early, told)) (inl (last, text, is, told')) = absurd (early last)
  by_once s (Rejected at state) a b (inr (early, told)) (inr (early', told')) = told ∙ sym told'

  found_once : (found : LineResult) (a b : FinalText) → IsExplainedFound p found a → IsExplainedFound p found b → a ≡ b
  found_once (IsSentence s) a b (how, is, x) (how', is', y) =
      let same : how' ≡ how = ending_unique p.tabled.halting (initial s.start s.tokens) how' how is' is in by_once s how a b x (subst (λ (h : Ending). IsExplainedBy p s h b) same y)
  found_once IsUnreadable a b x y = x ∙ sym y
  found_once (NamesNoStart name) a b x y = x ∙ sym y
  found_once LacksStart a b x y = x ∙ sym y
  found_once (NamesUnknown name) a b x y = x ∙ sym y

  pub final_once : (line : Text) (a b : FinalText) → IsExplained p line a → IsExplained p line b → a ≡ b
  final_once line a b x y = found_once (sentence_in (vocabulary_of p.grammar) line) a b x y
