-- The answer to a sentence line is unique.
use Rattle.std.proofs.Common.{◌≡◌, ℕ, List, ◌++◌, take, Bool, true, false, sym, ◌∙◌, ap, subst}
use Rattle.mh_grammar.specs.declared.types.Sentence.{Sentence}
use Rattle.mh_tables_core.specs.Run.{initial, Ending, Accepted, Overshot, Rejected}
use Rattle.mh_tables_core.specs.TreeRuns.{TreeEnding, AcceptedTree, OvershotTree, RejectedTree, DeepTree}
use Rattle.mh_tables_core.proofs.RunEnds.{ending_unique}
use Rattle.mh_tables_core.proofs.OneTreeEnding.{one_tree_ending}
use Rattle.mh_expected.proofs.ExpectedTokens.{one_list}
use Rattle.mh_msgfile.specs.Sentences.{LineResult, IsSentence, IsUnreadable, NamesNoStart, LacksStart, NamesUnknown, sentence_in, vocabulary_of}
use Rattle.mh_grammar.specs.Text.{Text}
use Rattle.mh_top_plans.specs.Verdicts.{VerdictContext, IsAnswerToLine, IsAnswerToFound, IsSentenceAnswer, IsAnswerWithTrees, IsRefusalWithTokens, IsEndingText, IsTreeText, refusal_text, expected_line}

-- ---- The text that answers a line is unique.

refused_once : (b : Bool) (by : VerdictContext) (s : Sentence) (at state : ℕ) (x y : Text) → IsRefusalWithTokens b by s at state x → IsRefusalWithTokens b by s at state y → x ≡ y
refused_once false by s at state x y p q = p ∙ sym q
refused_once true by s at state x y p q =
    p.2 ∙ ap (λ (tokens : List ℕ). refusal_text by.messages state ++ expected_line by.grammar tokens) (one_list by.table s.start (take at s.tokens) p.0 q.0 p.1 q.1) ∙ sym q.2

ending_once : (by : VerdictContext) (s : Sentence) (how : Ending) (x y : Text) → IsEndingText by s how x → IsEndingText by s how y → x ≡ y
ending_once by s (Accepted read) x y p q = p ∙ sym q
ending_once by s (Overshot state) x y p q = p ∙ sym q
ending_once by s (Rejected at state) x y p q = refused_once by.expected by s at state x y p q

tree_once : (by : VerdictContext) (s : Sentence) (outcome : TreeEnding) (x y : Text) → IsTreeText by s outcome x → IsTreeText by s outcome y → x ≡ y
tree_once by s (AcceptedTree read tree) x y p q = p ∙ sym q
tree_once by s (OvershotTree state) x y p q = p ∙ sym q
tree_once by s (RejectedTree at state) x y p q = refused_once by.expected by s at state x y p q
tree_once by s DeepTree x y p q = p ∙ sym q

sentence_once : (trees : Bool) (by : VerdictContext) (s : Sentence) (a b : Text) → IsAnswerWithTrees trees by s a → IsAnswerWithTrees trees by s b → a ≡ b
sentence_once false by s a b p q =
    ending_once by s q.0 a b (subst (λ (how : Ending). IsEndingText by s how a) (ending_unique by.table (initial s.start s.tokens) p.0 q.0 p.1 q.1) p.2) q.2
sentence_once true by s a b p q =
    tree_once by s q.0 a b (subst (λ (outcome : TreeEnding). IsTreeText by s outcome a) (one_tree_ending by.table s.start s.tokens p.0 q.0 p.1 q.1) p.2) q.2

found_once : (Says : Sentence → Text → Type 0) → ((s : Sentence) (a b : Text) → Says s a → Says s b → a ≡ b) → (found : LineResult) (a b : Text) → IsAnswerToFound Says found a → IsAnswerToFound Says found b → a ≡ b
found_once Says once (IsSentence s) a b p q = once s a b p q
found_once Says once IsUnreadable a b p q = p ∙ sym q
found_once Says once (NamesNoStart name) a b p q = p ∙ sym q
found_once Says once LacksStart a b p q = p ∙ sym q
found_once Says once (NamesUnknown name) a b p q = p ∙ sym q

pub answer_to_line_once : (by : VerdictContext) (line a b : Text) → IsAnswerToLine by line a → IsAnswerToLine by line b → a ≡ b
answer_to_line_once by line a b p q = found_once (IsSentenceAnswer by) (sentence_once by.trees by) (sentence_in (vocabulary_of by.grammar) line) a b p q
