-- The definition of the text of a messages file that is rebased onto another grammar: its kept entries, entries for the
-- other states in which sentences fail, and a report of what was dropped. The text is this project's own; entries and
-- comment lines are those of the Menhir manual (`--list-errors`, `--update-errors`).
use Rattle.std.specs.Prelude.{◌≡◌, ℕ, ◌||◌, Bool, true, false, List, [], ◌∷◌, ◌++◌, map, filter, flat_map, is_none, codes, decimal}
use Rattle.bstr.specs.Text.{lines_of}
use Rattle.mh_grammar.specs.declared.types.Grammar.{Grammar}
use Rattle.mh_grammar.specs.Text.{Text}
use Rattle.mh_items_kernels.specs.KernelTypes.{Automaton}
use Rattle.mh_tables_core.specs.Table.{TableData}
use Rattle.mh_tables_core.specs.Failing.{CatalogueRow, Catalogue}
use Rattle.mh_run.specs.Verdicts.{ending_for}
use Rattle.mh_msgfile.specs.FileTexts.{sentence_text}
use Rattle.mh_msgfile.specs.declared.loose.LooseEntry.{LooseEntry}
use Rattle.mh_msgfile.specs.declared.loose.LooseFile.{LooseFile}
use Rattle.mh_check.specs.Texts.{ending_text, early_text, shared_state_text}
use Rattle.mh_report.specs.CatalogueTexts.{AreEntries}
use Rattle.mh_rebase.specs.declared.reason.DropReason.{DropReason}
use Rattle.mh_rebase.specs.declared.reason.DropReason.TheVariants as reasons
use Rattle.mh_rebase.specs.Decisions.{Decision, Keep, Drop, DecidedLine, is_keep, kept_line, AreDecided}

-- An entry of the old file, with the decisions on its lines.
pub record DecidedEntry : Type 0 where
  pub sentences : List DecidedLine
  pub message : Text

abbrev pub without_decisions : DecidedEntry → LooseEntry
without_decisions e = record { sentences = map (λ j. j.line) e.sentences; message = e.message }

abbrev pub lines_in : List DecidedEntry → List DecidedLine
lines_in es = flat_map (λ e. e.sentences) es

-- Whether some of these lines is kept.
abbrev pub has_kept : List DecidedLine → Bool
has_kept [] = false
has_kept (j ∷ js) = is_keep j.decision || has_kept js

-- ---- Kept entries.

-- The canonical line of a kept sentence and its comment lines; empty for a dropped line.
abbrev pub kept_sentence_text : Grammar → Decision → Text
kept_sentence_text g (Keep sentence state comments) = sentence_text g sentence.start sentence.tokens ++ 10 ∷ comments
kept_sentence_text g (Drop reason) = []

abbrev pub kept_sentence_texts : Grammar → List DecidedLine → Text
kept_sentence_texts g js = flat_map (λ j. kept_sentence_text g j.decision) js

-- An empty line, the message and an empty line, if some sentence of the entry is kept.
abbrev pub message_if_kept : Bool → Text → Text
message_if_kept true message = 10 ∷ message ++ 10 ∷ []
message_if_kept false message = []

abbrev pub kept_entry_text : Grammar → DecidedEntry → Text
kept_entry_text g e = kept_sentence_texts g e.sentences ++ message_if_kept (has_kept e.sentences) e.message

abbrev pub kept_entries_text : Grammar → List DecidedEntry → Text
kept_entries_text g es = flat_map (kept_entry_text g) es

-- ---- The report of what was dropped.

-- The beginning of the line that reports a dropped line.
unfoldable pub dropped_title : ℕ → Text
dropped_title line = codes "# dropped " ++ decimal line ++ codes ": "

-- The reason, followed by an LF.
abbrev pub reason_text : DropReason → Text
reason_text reasons.Unreadable = codes "unreadable\n"
reason_text (reasons.UnknownStart name) = codes "unknown start " ++ name ++ codes "\n"
reason_text reasons.MissingStart = codes "missing start\n"
reason_text (reasons.UnknownToken name) = codes "unknown token " ++ name ++ codes "\n"
reason_text (reasons.NotRefused verdict) = ending_text (ending_for verdict)
reason_text (reasons.RefusedEarly at) = early_text at
reason_text (reasons.SharedState state line) = shared_state_text state line

-- The line that reports a dropped line; empty for a kept one.
abbrev pub dropped_line_text : ℕ → Decision → Text
dropped_line_text line (Keep sentence state comments) = []
dropped_line_text line (Drop reason) = dropped_title line ++ reason_text reason

abbrev pub dropped_lines_text : List DecidedLine → Text
dropped_lines_text js = flat_map (λ j. dropped_line_text j.line.line j.decision) js

-- Each line of a message after `# `.
abbrev pub commented_message : Text → Text
commented_message message = flat_map (λ line. codes "# " ++ line) (lines_of message)

-- The message as comments, unless some sentence of the entry is kept.
abbrev pub message_if_lost : Bool → Text → Text
message_if_lost true message = []
message_if_lost false message = commented_message message

abbrev pub dropped_entry_text : DecidedEntry → Text
dropped_entry_text e = dropped_lines_text e.sentences ++ message_if_lost (has_kept e.sentences) e.message

abbrev pub dropped_entries_text : List DecidedEntry → Text
dropped_entries_text es = flat_map dropped_entry_text es

-- ---- The whole text.

-- Whether no kept sentence fails in the state of the row.
abbrev pub is_new_row : List DecidedLine → CatalogueRow → Bool
is_new_row js row = is_none (kept_line js row.state)

-- The text is the file rebased onto the grammar of the table. It has three parts: each entry with a kept sentence, in
-- order; an entry for each row of the catalogue in whose state no kept sentence fails; and the report of what was
-- dropped. The comment lines of the old file are not copied; the new ones end with the expected tokens, if `expected`
-- is true.
pub record IsRebased (expected : Bool) (g : Grammar) (a : Automaton) (t : TableData) (file : LooseFile) (text : Text) : Type 0 where
  pub entries : List DecidedEntry
  pub of_file : map without_decisions entries ≡ file.entries
  pub decided : AreDecided expected g a t [] (lines_in entries)
  pub rows : List CatalogueRow
  pub catalogue : Catalogue t rows
  pub new : Text
  pub are_new : AreEntries expected g a t (filter (is_new_row (lines_in entries)) rows) new
  pub is : text ≡ kept_entries_text g entries ++ new ++ dropped_entries_text entries
