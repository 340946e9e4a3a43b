-- The answers of `--interpret` to the lines of the input (Menhir manual; the exact words are this project's own).
use Rattle.std.specs.Prelude.{◌≡◌, ℕ, Bool, true, false, List, [], ◌++◌, take, Option, None, Some, codes, decimal}
use Rattle.mh_grammar.specs.declared.types.Grammar.{Grammar}
use Rattle.mh_grammar.specs.declared.types.Sentence.{Sentence}
use Rattle.mh_tables_core.specs.Table.{TableData}
use Rattle.mh_tables_core.specs.Run.{Ending, Accepted, Overshot, Rejected, VerdictOf}
use Rattle.mh_grammar.specs.Trees.{tree_text}
use Rattle.mh_tables_core.specs.TreeRuns.{TreeEnding, AcceptedTree, OvershotTree, RejectedTree, DeepTree, IsTreeEnding}
use Rattle.mh_expected.specs.Expected.{ExpectedTokens}
use Rattle.mh_msgfile.specs.FileTexts.{names_after}
use Rattle.mh_check.specs.Compiling.{message_at}
use Rattle.mh_grammar.specs.Text.{Text}
use Rattle.mh_top_plans.specs.MessagesFiles.{Messages}
use Rattle.mh_msgfile.specs.Sentences.{LineResult, IsSentence, IsUnreadable, NamesNoStart, LacksStart, NamesUnknown, sentence_in, vocabulary_of}

-- ---- A sentence.

-- The message of a state, or the line for a state without a message.
abbrev pub message_or_none : ℕ → Option Text → Text
message_or_none state None = codes "no message for state " ++ decimal state ++ codes "\n"
message_or_none state (Some message) = message

-- The text after the word for a refusal: empty if no messages file is given.
abbrev pub text_after_refusal : Option Messages → ℕ → Text
text_after_refusal None state = []
text_after_refusal (Some messages) state = message_or_none state (message_at messages state)

-- The answer to a sentence that is refused in a state.
abbrev pub refusal_text : Option Messages → ℕ → Text
refusal_text messages state = codes "REJECT\n" ++ text_after_refusal messages state

-- The line with the names of the expected tokens, each after one space.
abbrev pub expected_line : Grammar → List ℕ → Text
expected_line g tokens = codes "expected:" ++ names_after g tokens ++ codes "\n"

-- The data by which lines are answered: whether accepted sentences are shown with trees, whether expected tokens are
-- listed, the grammar and its table, and optional messages for refusals.
pub record VerdictContext : Type 0 where
  pub trees : Bool
  pub expected : Bool
  pub grammar : Grammar
  pub table : TableData
  pub messages : Option Messages

-- The text is the answer to a sentence that is refused at this index, in this state, with the list of expected tokens
-- or without.
abbrev pub IsRefusalWithTokens : Bool → VerdictContext → Sentence → ℕ → ℕ → Text → Type 0
IsRefusalWithTokens false by s at state text = text ≡ refusal_text by.messages state
IsRefusalWithTokens true by s at state text =
    (tokens : List ℕ) × ExpectedTokens by.table s.start (take at s.tokens) tokens × (text ≡ refusal_text by.messages state ++ expected_line by.grammar tokens)

abbrev pub IsRefusalText : VerdictContext → Sentence → ℕ → ℕ → Text → Type 0
IsRefusalText by = IsRefusalWithTokens by.expected by

-- The text is the answer to a sentence whose run ends in this way.
abbrev pub IsEndingText : VerdictContext → Sentence → Ending → Text → Type 0
IsEndingText by s (Accepted read) text = text ≡ codes "ACCEPT\n"
IsEndingText by s (Overshot state) text = text ≡ codes "OVERSHOOT\n"
IsEndingText by s (Rejected at state) text = IsRefusalText by s at state text

-- The text is the answer to a sentence whose run with trees ends in this way. An accepted sentence has a second line
-- with the tree of the tokens that were read.
abbrev pub IsTreeText : VerdictContext → Sentence → TreeEnding → Text → Type 0
IsTreeText by s (AcceptedTree read tree) text = text ≡ codes "ACCEPT\n" ++ tree_text by.grammar tree ++ codes "\n"
IsTreeText by s (OvershotTree state) text = text ≡ codes "OVERSHOOT\n"
IsTreeText by s (RejectedTree at state) text = IsRefusalText by s at state text
IsTreeText by s DeepTree text = text ≡ codes "TOODEEP\n"

-- The text is the answer to the sentence by its verdict.
abbrev pub IsVerdictText : VerdictContext → Sentence → Text → Type 0
IsVerdictText by s text = (how : Ending) × VerdictOf by.table s.start s.tokens how × IsEndingText by s how text

-- The text is the answer to the sentence by its run with trees.
abbrev pub IsOutcomeText : VerdictContext → Sentence → Text → Type 0
IsOutcomeText by s text = (outcome : TreeEnding) × IsTreeEnding by.table s.start s.tokens outcome × IsTreeText by s outcome text

-- The text is the answer to the sentence, with trees or without.
abbrev pub IsAnswerWithTrees : Bool → VerdictContext → Sentence → Text → Type 0
IsAnswerWithTrees false by = IsVerdictText by
IsAnswerWithTrees true by = IsOutcomeText by

abbrev pub IsSentenceAnswer : VerdictContext → Sentence → Text → Type 0
IsSentenceAnswer by = IsAnswerWithTrees by.trees by

-- ---- A line.

-- The text is the answer to the content of a line: to a sentence as `Says` gives it, and to a line that is no sentence
-- with the fault of the line.
abbrev pub IsAnswerToFound : (Sentence → Text → Type 0) → LineResult → Text → Type 0
IsAnswerToFound Says (IsSentence s) text = Says s text
IsAnswerToFound Says IsUnreadable text = text ≡ codes "ERROR unreadable\n"
IsAnswerToFound Says (NamesNoStart name) text = text ≡ codes "ERROR unknown start " ++ name ++ codes "\n"
IsAnswerToFound Says LacksStart text = text ≡ codes "ERROR missing start\n"
IsAnswerToFound Says (NamesUnknown name) text = text ≡ codes "ERROR unknown token " ++ name ++ codes "\n"

-- ---- The lines.

-- The text is the answer to a line.
abbrev pub IsAnswerToLine : VerdictContext → Text → Text → Type 0
IsAnswerToLine by line text = IsAnswerToFound (IsSentenceAnswer by) (sentence_in (vocabulary_of by.grammar) line) text
