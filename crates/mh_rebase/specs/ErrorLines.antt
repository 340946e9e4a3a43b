-- The definition of the lines that say what is wrong with a messages file: sentence lines that rebasing would drop, a
-- last block without a message, messages that nobody has written yet, and states without an entry. The lines are this
-- project's own; that a file needs exactly one sentence for each state in which some sentence fails is from Pottier
-- 2016, and the line in place of a message is the Menhir manual's (`--list-errors`).
use Rattle.std.specs.Prelude.{◌≡◌, ◌++◌, ℕ, Bool, true, false, List, [], ◌∷◌, map, filter, flat_map, nat_eq, Option, None, Some, codes, decimal, ⊤}
use Rattle.std.specs.Cmp.Lexicographic.{pointwise}
use Rattle.std.specs.List.{list_any}
use Rattle.bstr.specs.Text.{lines_of}
use Rattle.mh_grammar.specs.declared.types.Grammar.{Grammar}
use Rattle.mh_grammar.specs.Text.{Text}
use Rattle.mh_tables_core.specs.Table.{TableData}
use Rattle.mh_tables_core.specs.Failing.{CatalogueRow, Catalogue, Fails}
use Rattle.mh_msgfile.specs.Sentences.{vocabulary_of, IsSentence, sentence_in}
use Rattle.mh_msgfile.specs.FileTexts.{sentence_text}
use Rattle.mh_msgfile.specs.declared.blocks.LooseBlocks.{LooseBlocks}
use Rattle.mh_rebase.specs.Decisions.{Decision, Keep, Drop, DecidedLine, IsReason, kept_line}
use Rattle.mh_rebase.specs.RebasedText.{DecidedEntry, without_decisions, lines_in, reason_text, is_new_row}

-- The beginning of each line of the report that is about a line of the file: the name of the file, and the number of
-- the line of the file.
unfoldable pub place : Text → ℕ → Text
place name line = name ++ (codes ":" ++ decimal line ++ codes ": ")

-- ---- Sentence lines.

-- The decision on a line by the rules of rebasing. No comment lines are made for a kept sentence.
abbrev pub IsLineDecision : Grammar → TableData → List DecidedLine → Text → Decision → Type 0
IsLineDecision g t before text (Keep sentence state comments) =
    (sentence_in (vocabulary_of g) text ≡ IsSentence sentence) × Fails t sentence.start sentence.tokens state × (kept_line before state ≡ None) × (comments ≡ [])
IsLineDecision g t before text (Drop reason) = IsReason (vocabulary_of g) t before text reason

-- The decision on each of these lines is right, given the decisions on the lines before it.
abbrev pub AreLineDecisions : Grammar → TableData → List DecidedLine → List DecidedLine → Type 0
AreLineDecisions g t before [] = ⊤
AreLineDecisions g t before (j ∷ js) = IsLineDecision g t before j.line.text j.decision × AreLineDecisions g t (before ++ j ∷ []) js

-- The line on a sentence line that is dropped, with the reason; none for a sentence that is kept.
abbrev pub decision_text : Text → ℕ → Decision → Text
decision_text name line (Keep sentence state comments) = []
decision_text name line (Drop reason) = place name line ++ reason_text reason

abbrev pub decision_texts : Text → List DecidedLine → Text
decision_texts name js = flat_map (λ j. decision_text name j.line.line j.decision) js

-- ---- Messages that nobody has written yet.

-- The line that `--list-errors` writes in place of a message, with its LF.
unfoldable pub unwritten_line : Text
unwritten_line = codes "<YOUR SYNTAX ERROR MESSAGE HERE>\n"

-- Whether some line of the message is this line.
abbrev pub is_unwritten : Text → Bool
is_unwritten message = list_any (λ line. pointwise nat_eq line unwritten_line) (lines_of message)

-- The number of the last of these lines.
abbrev pub last_line : List DecidedLine → ℕ
last_line [] = 0
last_line (j ∷ []) = j.line.line
last_line (j ∷ k ∷ js) = last_line (k ∷ js)

-- The line on a message that nobody has written yet, at the last sentence of its entry.
abbrev pub unwritten_text : Text → ℕ → Bool → Text
unwritten_text name line true = place name line ++ codes "no message yet\n"
unwritten_text name line false = []

-- ---- Entries, and a last block without a message.

abbrev pub entry_text : Text → DecidedEntry → Text
entry_text name e = decision_texts name e.sentences ++ unwritten_text name (last_line e.sentences) (is_unwritten e.message)

abbrev pub entries_text : Text → List DecidedEntry → Text
entries_text name es = flat_map (entry_text name) es

-- The line on a last block without a message, at the first line of the block.
abbrev pub unpaired_text : Text → Option ℕ → Text
unpaired_text name None = []
unpaired_text name (Some line) = place name line ++ codes "shape\n"

-- ---- States without an entry.

-- The line on a state without an entry, with the catalogue's sentence.
abbrev pub missing_text : Grammar → CatalogueRow → Text
missing_text g row = codes "state " ++ decimal row.state ++ codes " has no entry: " ++ sentence_text g row.start row.sentence ++ codes "\n"

abbrev pub missing_texts : Grammar → List CatalogueRow → Text
missing_texts g rows = flat_map (missing_text g) rows

-- ---- The whole text.

-- The text has a line for each thing that is wrong with the file of these blocks: in the order of the file a line for
-- each sentence line that is not kept, by the rules of rebasing, and for each message that nobody has written yet; the
-- line on a last block without a message; and then, in the order of the states, a line for each state in which some
-- sentence fails and no kept sentence does.
pub record IsErrorText (g : Grammar) (t : TableData) (name : Text) (blocks : LooseBlocks) (text : Text) : Type 0 where
  pub entries : List DecidedEntry
  pub of_file : map without_decisions entries ≡ blocks.file.entries
  pub decided : AreLineDecisions g t [] (lines_in entries)
  pub rows : List CatalogueRow
  pub catalogue : Catalogue t rows
  pub is : text ≡ entries_text name entries ++ unpaired_text name blocks.unpaired ++ missing_texts g (filter (is_new_row (lines_in entries)) rows)
