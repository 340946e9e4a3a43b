-- The contracts of the functions that decide on the lines of a file and write what is wrong with the lines.
use Rattle.std.specs.Prelude.{◌≡◌, ℕ, List, [], ◌∷◌, ◌++◌, length, map}
use Rattle.mh_grammar.specs.declared.types.Grammar.{Grammar}
use Rattle.mh_grammar.specs.Text.{Text}
use Rattle.mh_tables_core.specs.Table.{TableData}
use Rattle.mh_msgfile.specs.Sentences.{vocabulary_of, LineResult, sentence_in}
use Rattle.mh_msgfile.specs.declared.loose.LooseLine.{LooseLine}
use Rattle.mh_msgfile.specs.declared.loose.LooseEntry.{LooseEntry}
use Rattle.mh_msgfile.specs.declared.sentence.SentenceFault.{SentenceFault}
use Rattle.mh_rebase.specs.declared.reason.DropReason.{DropReason}
use Rattle.mh_rebase.specs.Decisions.{Decision, Drop, DecidedLine}
use Rattle.mh_rebase.specs.RebasedText.{DecidedEntry, without_decisions, lines_in}
use Rattle.mh_rebase.specs.code.Reasons.{IsReasonOfFault}
use Rattle.mh_rebase.specs.code.Parts.{AreKeptLines}
use Rattle.mh_rebase.specs.ErrorLines.{IsLineDecision, AreLineDecisions, decision_text, decision_texts, entries_text, last_line}
use Rattle.mh_lint_messages.specs.declared.lines.Findings.{Findings}

-- Nothing is found yet.
pub record HasFoundNothing (t : TableData) (found : Findings) : Type 0 where
  pub size : length found.kept_lines.items ≡ length t.states
  pub lines : AreKeptLines [] found.kept_lines.items
  pub text : found.text.items ≡ []

-- The sentence line has this fault, and a line of the report with the reason of the fault is appended to the text.
pub record WritesFault (name : Text) (line : ℕ) (fault : SentenceFault) (old new : Text) : Type 0 where
  pub reason : DropReason
  pub is : IsReasonOfFault fault reason
  pub written : new ≡ old ++ decision_text name line (Drop reason)

-- A sentence line that is read as `found` is decided on, and the report's line for the decision is appended.
pub record DecidesLine (g : Grammar) (t : TableData) (name : Text) (line : ℕ) (found : LineResult) (old new : Findings) : Type 0 where
  pub decision : Decision
  pub decided : (before : List DecidedLine) → AreKeptLines before old.kept_lines.items → (text : Text) → sentence_in (vocabulary_of g) text ≡ found
      → IsLineDecision g t before text decision × AreKeptLines (before ++ record { line = record { line = line; text = text }; decision = decision } ∷ []) new.kept_lines.items
  pub written : new.text.items ≡ old.text.items ++ decision_text name line decision

-- These lines are decided on in order, the report's lines for the decisions are appended, and `last` is the number of
-- the last line.
pub record DecidesLines (g : Grammar) (t : TableData) (name : Text) (lines : List LooseLine) (last : ℕ) (old new : Findings) : Type 0 where
  pub done : List DecidedLine
  pub of_lines : map (λ j. j.line) done ≡ lines
  pub last_is : last ≡ last_line done
  pub decided : (before : List DecidedLine) → AreKeptLines before old.kept_lines.items → AreLineDecisions g t before done × AreKeptLines (before ++ done) new.kept_lines.items
  pub written : new.text.items ≡ old.text.items ++ decision_texts name done

-- These entries are decided on in order, and the report's lines for the entries are appended.
pub record DecidesEntries (g : Grammar) (t : TableData) (name : Text) (entries : List LooseEntry) (old new : Findings) : Type 0 where
  pub done : List DecidedEntry
  pub of_entries : map without_decisions done ≡ entries
  pub decided : (before : List DecidedLine) → AreKeptLines before old.kept_lines.items → AreLineDecisions g t before (lines_in done) × AreKeptLines (before ++ lines_in done) new.kept_lines.items
  pub written : new.text.items ≡ old.text.items ++ entries_text name done
