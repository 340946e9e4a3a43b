-- The output of `--interpret-error` for one sentence: the entry that a messages file would have for it, if the sentence
-- is refused at its last token, and otherwise a line on err (Menhir manual; the words of the lines are this project's
-- own).
use Rattle.std.specs.Prelude.{◌≡◌, ◌⊎◌, ◌+◌, ◌++◌, [], None, Some, length, codes}
use Rattle.mh_grammar.specs.declared.types.Sentence.{Sentence}
use Rattle.mh_tables_core.specs.Run.{Ending, Accepted, Overshot, Rejected, VerdictOf}
use Rattle.mh_check.specs.Texts.{ending_text, early_text}
use Rattle.mh_report.specs.Comments.{IsEntryText}
use Rattle.mh_msgfile.specs.Sentences.{LineResult, IsSentence, IsUnreadable, NamesNoStart, LacksStart, NamesUnknown, sentence_in, vocabulary_of}
use Rattle.mh_grammar.specs.Text.{Text}
use Rattle.mh_top_drive.specs.Shapes.{Prepared}
use Rattle.mh_top_plans.specs.declared.at_end.FinalText.{FinalText}
use Rattle.mh_top_plans.specs.declared.at_end.FinalText.TheVariants.{Written, Refusal}

-- The refusal of the input with this reason.
abbrev pub input_refusal : Text → FinalText
input_refusal words = Refusal (codes "menhir: input: " ++ words)

-- The final text for a sentence whose run ends in this way.
abbrev pub IsExplainedBy : Prepared → Sentence → Ending → FinalText → Type 0
IsExplainedBy p s (Accepted read) made = made ≡ input_refusal (ending_text (Accepted read))
IsExplainedBy p s (Overshot state) made = made ≡ input_refusal (ending_text (Overshot state))
IsExplainedBy p s (Rejected at state) made =
    ((at + 1 ≡ length s.tokens) × (text : Text) × IsEntryText p.order.comment_expected p.grammar p.tabled.automaton p.tabled.halting s.start s.tokens text × (made ≡ Written text))
    ⊎ ((at + 1 ≡ length s.tokens → ⊥) × (made ≡ input_refusal (early_text at)))

-- The final text for a sentence.
abbrev pub IsExplainedSentence : Prepared → Sentence → FinalText → Type 0
IsExplainedSentence p s made = (how : Ending) × VerdictOf p.tabled.halting s.start s.tokens how × IsExplainedBy p s how made

-- The final text for the content of a line: a sentence, or the fault of a line that is no sentence.
abbrev pub IsExplainedFound : Prepared → LineResult → FinalText → Type 0
IsExplainedFound p (IsSentence s) made = IsExplainedSentence p s made
IsExplainedFound p IsUnreadable made = made ≡ input_refusal (codes "unreadable\n")
IsExplainedFound p (NamesNoStart name) made = made ≡ input_refusal (codes "unknown start " ++ name ++ codes "\n")
IsExplainedFound p LacksStart made = made ≡ input_refusal (codes "missing start\n")
IsExplainedFound p (NamesUnknown name) made = made ≡ input_refusal (codes "unknown token " ++ name ++ codes "\n")

-- The final text for a line.
abbrev pub IsExplained : Prepared → Text → FinalText → Type 0
IsExplained p line made = IsExplainedFound p (sentence_in (vocabulary_of p.grammar) line) made
