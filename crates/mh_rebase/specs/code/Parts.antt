-- The contracts of the functions that decide on the lines of a file and write what follows from the decisions.
use Rattle.std.specs.Prelude.{◌≡◌, ◌-◌, ℕ, Bool, true, false, List, [], ◌∷◌, ◌++◌, length, map, take, Option}
use Rattle.mh_grammar.specs.declared.types.Grammar.{Grammar}
use Rattle.mh_grammar.specs.declared.types.Sentence.{Sentence}
use Rattle.mh_grammar.specs.Text.{Text}
use Rattle.mh_rebase.specs.code.Reasons.{kept_line_in}
use Rattle.mh_items_kernels.specs.KernelTypes.{Automaton, KernelItem}
use Rattle.mh_items_kernels.specs.Automaton.{kernel_at}
use Rattle.mh_tables_core.specs.Table.{TableData}
use Rattle.mh_msgfile.specs.Sentences.{vocabulary_of, LineResult, sentence_in}
use Rattle.mh_msgfile.specs.declared.sentence.SentenceFault.{SentenceFault}
use Rattle.mh_msgfile.specs.FileTexts.{sentence_text}
use Rattle.mh_msgfile.specs.declared.loose.LooseLine.{LooseLine}
use Rattle.mh_msgfile.specs.declared.loose.LooseEntry.{LooseEntry}
use Rattle.mh_expected.specs.Expected.{ExpectedTokens}
use Rattle.mh_report.specs.Comments.{HasFarthestDot, comments, expected_comment}
use Rattle.mh_rebase.specs.Decisions.{Decision, Drop, DecidedLine, is_keep, kept_line, IsDecision, AreDecided}
use Rattle.mh_rebase.specs.declared.reason.DropReason.{DropReason}
use Rattle.mh_rebase.specs.RebasedText.{DecidedEntry, without_decisions, lines_in, has_kept, kept_sentence_text, kept_sentence_texts, kept_entries_text, dropped_line_text, dropped_lines_text, dropped_entries_text}
use Rattle.mh_rebase.specs.code.Reasons.{IsReasonOfFault}
use Rattle.mh_rebase.specs.declared.entries.Parts.{Parts}

-- For each state the list has the number of the kept line whose sentence fails there.
abbrev pub AreKeptLines : List DecidedLine → List (Option ℕ) → Type 0
AreKeptLines js kept_lines = (s : ℕ) → kept_line_in kept_lines s ≡ kept_line js s

-- Nothing is kept or dropped yet.
pub record HasNothing (t : TableData) (parts : Parts) : Type 0 where
  pub size : length parts.kept_lines.items ≡ length t.states
  pub lines : AreKeptLines [] parts.kept_lines.items
  pub kept : parts.kept.items ≡ []
  pub dropped : parts.dropped.items ≡ []

-- The line of the expected tokens, if it is asked for.
abbrev pub IsExpectedPart : (expected : Bool) → Grammar → TableData → Sentence → Text → Type 0
IsExpectedPart false g t x text = text ≡ []
IsExpectedPart true g t x text = (tokens : List ℕ) × ExpectedTokens t x.start (take (length x.tokens - 1) x.tokens) tokens × (text ≡ expected_comment g tokens)

-- The canonical line of a sentence and the comment lines of the state are appended, with the expected tokens or
-- without.
pub record WritesKeptSentence (expected : Bool) (g : Grammar) (a : Automaton) (t : TableData) (x : Sentence) (state : ℕ) (reduced : List ℕ) (old new : Text) : Type 0 where
  pub item : KernelItem
  pub farthest : HasFarthestDot (kernel_at a state).items item
  pub more : Text
  pub is_more : IsExpectedPart expected g t x more
  pub written : new ≡ old ++ (sentence_text g x.start x.tokens ++ 10 ∷ (comments g (kernel_at a state).items state item reduced ++ more))

-- The sentence line has this fault, and the text that reports the line as dropped for this fault is appended.
pub record DropsFault (line : ℕ) (fault : SentenceFault) (old new : Text) : Type 0 where
  pub reason : DropReason
  pub is : IsReasonOfFault fault reason
  pub drops : new ≡ old ++ dropped_line_text line (Drop reason)

-- A sentence line that is read as `found` is decided on, and the texts for the decision are appended to the parts.
pub record DecidesLine (expected : Bool) (g : Grammar) (a : Automaton) (t : TableData) (line : ℕ) (found : LineResult) (kept : Bool) (old new : Parts) : Type 0 where
  pub decision : Decision
  pub kept_is : kept ≡ is_keep decision
  pub decided : (before : List DecidedLine) → AreKeptLines before old.kept_lines.items → (text : Text) → sentence_in (vocabulary_of g) text ≡ found
      → IsDecision expected g a t before text decision × AreKeptLines (before ++ record { line = record { line = line; text = text }; decision = decision } ∷ []) new.kept_lines.items
  pub keeps : new.kept.items ≡ old.kept.items ++ kept_sentence_text g decision
  pub drops : new.dropped.items ≡ old.dropped.items ++ dropped_line_text line decision

-- These lines are decided on in order, and the texts for the decisions are appended to the parts.
pub record DecidesLines (expected : Bool) (g : Grammar) (a : Automaton) (t : TableData) (lines : List LooseLine) (kept : Bool) (old new : Parts) : Type 0 where
  pub done : List DecidedLine
  pub of_lines : map (λ j. j.line) done ≡ lines
  pub kept_is : kept ≡ has_kept done
  pub decided : (before : List DecidedLine) → AreKeptLines before old.kept_lines.items → AreDecided expected g a t before done × AreKeptLines (before ++ done) new.kept_lines.items
  pub keeps : new.kept.items ≡ old.kept.items ++ kept_sentence_texts g done
  pub drops : new.dropped.items ≡ old.dropped.items ++ dropped_lines_text done

-- These entries are decided on in order, and the texts for the decisions are appended to the parts.
pub record DecidesEntries (expected : Bool) (g : Grammar) (a : Automaton) (t : TableData) (entries : List LooseEntry) (old new : Parts) : Type 0 where
  pub done : List DecidedEntry
  pub of_entries : map without_decisions done ≡ entries
  pub decided : (before : List DecidedLine) → AreKeptLines before old.kept_lines.items → AreDecided expected g a t before (lines_in done) × AreKeptLines (before ++ lines_in done) new.kept_lines.items
  pub keeps : new.kept.items ≡ old.kept.items ++ kept_entries_text g done
  pub drops : new.dropped.items ≡ old.dropped.items ++ dropped_entries_text done
