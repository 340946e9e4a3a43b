-- Proves the contract of the decision on a line, from the verdict on its sentence or from its fault.
use Rattle.std.proofs.Common.{◌≡◌, ◌<◌, ◌≤◌, ◌+◌, ◌-◌, ℕ, true, false, List, [], ◌∷◌, ◌++◌, length, set, take, Option, Some, refl, sym, ◌∙◌, ap, subst, arith, append_assoc, append-nil, Bool, Bool}
use Rattle.std.specs.Prelude.{Err}
use Rattle.std.specs.List.{All}
use Rattle.std.proofs.Math.Numerals.{lt_of_le_of_ne}
use Rattle.std.proofs.lemmas.List.Elements.{recursion_from_All}
use Rattle.mh_grammar.specs.declared.types.Grammar.{Grammar}
use Rattle.mh_grammar.specs.declared.types.Sentence.{Sentence}
use Rattle.mh_grammar.specs.Plain.{PlainGrammar, plain_of}
use Rattle.mh_grammar.specs.Text.{Text}
use Rattle.mh_items_kernels.specs.KernelTypes.{Automaton, KernelItem}
use Rattle.mh_items_kernels.specs.Automaton.{kernel_at}
use Rattle.mh_tables_core.specs.Table.{TableData}
use Rattle.mh_tables_core.specs.Facts.{Facts}
use Rattle.mh_tables_core.specs.Run.{VerdictOf, Rejected}
use Rattle.mh_tables_core.specs.Failing.{Fails}
use Rattle.mh_tables_core.proofs.RefusalIsCut.{verdict_cut}
use Rattle.mh_tables_core.proofs.RefusingState.{refusing_state_known}
use Rattle.mh_run.specs.Trace.{TraceOf}
use Rattle.mh_run.specs.Verdicts.{ending_for}
use Rattle.mh_run.specs.declared.outcome.Verdict.{Verdict}
use Rattle.mh_run.specs.declared.outcome.Verdict.TheVariants as verdicts
use Rattle.mh_msgfile.specs.Sentences.{Vocabulary, vocabulary_of, LineResult, IsSentence, sentence_in, ReadsSentence}
use Rattle.mh_msgfile.specs.declared.sentence.SentenceFault.{SentenceFault}
use Rattle.mh_expected.specs.Expected.{ExpectedTokens}
use Rattle.mh_report.specs.Comments.{HasFarthestDot, AppendsComments, AppendsExpected, IsCommentBlock, IsCommentText, comments, expected_comment}
use Rattle.mh_msgfile.specs.FileTexts.{sentence_text}
use Rattle.mh_report.proofs.CommentParts.{appends_comments}
use Rattle.mh_rebase.specs.declared.reason.DropReason.{DropReason}
use Rattle.mh_rebase.specs.declared.reason.DropReason.TheVariants as reasons
use Rattle.mh_rebase.specs.Decisions.{Keep, Drop, DecidedLine, IsReason, SentenceIsNotRefused, SentenceIsRefusedEarly, StateIsShared, IsKept}
use Rattle.mh_rebase.specs.RebasedText.{dropped_title, reason_text}
use Rattle.mh_rebase.specs.code.Reasons.{IsStateToKeep, IsReasonOfVerdict}
use Rattle.mh_rebase.specs.code.Parts.{AreKeptLines, IsExpectedPart, WritesKeptSentence, DropsFault, DecidesLine}
use Rattle.mh_rebase.specs.declared.entries.Parts.{Parts}
use Rattle.mh_rebase.proofs.AreKeptLines.{places_drop, places_keep}

-- The comment lines, and the line of the expected tokens if this line is asked for, are the comment block of the
-- sentence.
with_more : (expected : Bool) (g : Grammar) (a : Automaton) (t : TableData) (x : Sentence) (lines more : Text) → IsCommentText g a t x.start x.tokens lines → IsExpectedPart expected g t x more → IsCommentBlock expected g a t x.start x.tokens (lines ++ more)
with_more false g a t x lines more is none = subst (IsCommentText g a t x.start x.tokens) (sym (append-nil lines) ∙ ap (λ (l : Text). lines ++ l) (sym none)) is
with_more true g a t x lines more is (tokens, are, same) = (lines, is, tokens, are, ap (λ (l : Text). lines ++ l) same)

-- A sentence within the grammar of the table, with the result of its run.
pub record Traced (g : Grammar) (t : TableData) (x : Sentence) (verdict : Verdict) (reduced : List ℕ) : Type 0 where
  pub start : x.start < length g.starts
  pub tokens : All (λ z. z < length g.tokens) x.tokens
  pub traced : TraceOf t x.start x.tokens (ending_for verdict) reduced

module _ (expected : Bool) (g : Grammar) (a : Automaton) (t : TableData) (facts : Facts t) (same : t.grammar ≡ plain_of g) (x : Sentence) (verdict : Verdict) (reduced : List ℕ) (run : Traced g t x verdict reduced) where
  ends : VerdictOf t x.start x.tokens (ending_for verdict)
  ends = (run.traced.steps, run.traced.ends)

  pub start_known : x.start < length t.grammar.starts
  start_known = subst (λ (h : PlainGrammar). x.start < length h.starts) (sym same) run.start

  pub tokens_known : All (λ z. z < t.grammar.tokens) x.tokens
  tokens_known = subst (λ (h : PlainGrammar). All (λ z. z < h.tokens) x.tokens) (sym same) run.tokens

  rejected : (at s : ℕ) → verdict ≡ verdicts.Reject at s → VerdictOf t x.start x.tokens (Rejected at s)
  rejected at s is = subst (λ (v : Verdict). VerdictOf t x.start x.tokens (ending_for v)) is ends

  fails : (at s : ℕ) → verdict ≡ verdicts.Reject at s → at + 1 ≡ length x.tokens → Fails t x.start x.tokens s
  fails at s is last = record {
    sentence = record { known = start_known; tokens = recursion_from_All (λ z. z < t.grammar.tokens) x.tokens tokens_known };
    some_token = omega (arith, last);
    verdict = (let place : at ≡ length x.tokens - 1 = omega (arith, last) in subst (λ (k : ℕ). VerdictOf t x.start x.tokens (Rejected k s)) place (rejected at s is));
  }

  -- The sentence fails in the state for which it is kept.
  pub state_fails : (kept : List (Option ℕ)) (s : ℕ) → IsStateToKeep verdict (length x.tokens) kept s → Fails t x.start x.tokens s
  state_fails kept s keep = fails keep.0 s keep.1 keep.2

  -- A state in which a sentence fails is a state of the table.
  pub state_below : (tokens : ℕ) (kept : List (Option ℕ)) (s : ℕ) → IsStateToKeep verdict tokens kept s → s < length t.states
  state_below tokens kept s keep = refusing_state_known t facts x.start x.tokens keep.0 s start_known (rejected keep.0 s keep.1)

  module _ (kept : List (Option ℕ)) (before : List DecidedLine) (are : AreKeptLines before kept) (text : Text) (read : sentence_in (vocabulary_of g) text ≡ IsSentence x) where
    keeps : (s : ℕ) (lines : Text) → IsStateToKeep verdict (length x.tokens) kept s → IsCommentBlock expected g a t x.start x.tokens lines → IsKept expected g a t before text x s lines
    keeps s lines keep is = record { read = read; fails = fails keep.0 s keep.1 keep.2; first = sym (are s) ∙ keep.3; commented = is }

    reason_is : (reason : DropReason) → IsReasonOfVerdict verdict (length x.tokens) kept reason → IsReason (vocabulary_of g) t before text reason
    reason_is (reasons.NotRefused other) why = subst (λ (v : Verdict). IsReason (vocabulary_of g) t before text (reasons.NotRefused v)) (sym why.0) (SentenceIsNotRefused x verdict read why.1 ends)
    reason_is (reasons.RefusedEarly at) why =
        let here = rejected at why.0 why.1 in
        let within : at < length x.tokens = (verdict_cut t x.start x.tokens at why.0 here).0 in
        let le : at + 1 ≤ length x.tokens = omega (arith, within) in
        SentenceIsRefusedEarly x at why.0 read (lt_of_le_of_ne le why.2) here
    reason_is (reasons.SharedState s line) why = StateIsShared x s line read (fails why.0 s why.1 why.2) (sym (are s) ∙ why.3)
    reason_is reasons.Unreadable why = absurd why
    reason_is (reasons.UnknownStart name) why = absurd why
    reason_is reasons.MissingStart why = absurd why
    reason_is (reasons.UnknownToken name) why = absurd why

  comment_text : (s : ℕ) (kept : List (Option ℕ)) (keep : IsStateToKeep verdict (length x.tokens) kept s) (old new : Text) (written : WritesKeptSentence expected g a t x s reduced old new) → IsCommentText g a t x.start x.tokens (comments g (kernel_at a s).items s written.item reduced)
  comment_text s kept keep old new written =
      let failing = fails keep.0 s keep.1 keep.2 in
      appends_comments t facts x.start x.tokens (s, failing) verdict reduced run.traced g a keep.0 s keep.1 (kernel_at a s).items refl [] (comments g (kernel_at a s).items s written.item reduced) refl (written.item, written.farthest, refl)

  -- The comment lines that are written for a kept sentence, and the line of the expected tokens if this line is asked
  -- for, are its comment block.
  comment_block : (s : ℕ) (kept : List (Option ℕ)) (keep : IsStateToKeep verdict (length x.tokens) kept s) (old new : Text) (written : WritesKeptSentence expected g a t x s reduced old new) → IsCommentBlock expected g a t x.start x.tokens (comments g (kernel_at a s).items s written.item reduced ++ written.more)
  comment_block s kept keep old new written = with_more expected g a t x (comments g (kernel_at a s).items s written.item reduced) written.more (comment_text s kept keep old new written) written.is_more

  -- The sentence is kept.
  pub adds_kept : (line s : ℕ) (old new : Parts) → IsStateToKeep verdict (length x.tokens) old.kept_lines.items s → s < length old.kept_lines.items → WritesKeptSentence expected g a t x s reduced old.kept.items new.kept.items
      → new.dropped.items ≡ old.dropped.items → new.kept_lines.items ≡ set old.kept_lines.items s (Some line) → DecidesLine expected g a t line (IsSentence x) true old new
  adds_kept line s old new keep within written stays put =
      let lines = comments g (kernel_at a s).items s written.item reduced ++ written.more in record {
        decision = Keep x s lines;
        kept_is = refl;
        decided = λ before are text read. (
          keeps old.kept_lines.items before are text read s lines keep (comment_block s old.kept_lines.items keep old.kept.items new.kept.items written),
          subst (λ (kept_lines : List (Option ℕ)). AreKeptLines (before ++ record { line = record { line = line; text = text }; decision = Keep x s lines } ∷ []) kept_lines) (sym put)
              (places_keep before old.kept_lines.items are line text x s lines within keep.3),
        );
        keeps = written.written;
        drops = stays ∙ sym (append-nil old.dropped.items);
      }

  -- The line of the sentence is dropped.
  pub adds_dropped : (line : ℕ) (reason : DropReason) (old new : Parts) → IsReasonOfVerdict verdict (length x.tokens) old.kept_lines.items reason → new.kept.items ≡ old.kept.items → new.kept_lines.items ≡ old.kept_lines.items
      → new.dropped.items ≡ old.dropped.items ++ dropped_title line ++ reason_text reason → DecidesLine expected g a t line (IsSentence x) false old new
  adds_dropped line reason old new why stays kept_lines reported = record {
    decision = Drop reason;
    kept_is = refl;
    decided = λ before are text read. (
      reason_is old.kept_lines.items before are text read reason why,
      subst (λ (ps : List (Option ℕ)). AreKeptLines (before ++ record { line = record { line = line; text = text }; decision = Drop reason } ∷ []) ps) (sym kept_lines) (places_drop before old.kept_lines.items are line text reason),
    );
    keeps = stays ∙ sym (append-nil old.kept.items);
    drops = reported ∙ append_assoc old.dropped.items (dropped_title line) (reason_text reason);
  }

-- A line that is no sentence of the grammar is dropped.
pub adds_fault : (expected : Bool) (g : Grammar) (a : Automaton) (t : TableData) (line : ℕ) (found : LineResult) (fault : SentenceFault) (old new : Parts) → ReadsSentence found (Err fault) → DropsFault line fault old.dropped.items new.dropped.items → new.kept.items ≡ old.kept.items → new.kept_lines.items ≡ old.kept_lines.items
    → DecidesLine expected g a t line found false old new
adds_fault expected g a t line found fault old new reads drops stays kept_lines = record {
  decision = Drop drops.reason;
  kept_is = refl;
  decided = λ before are text read. (
    drops.is (vocabulary_of g) t before text (subst (λ (f : LineResult). ReadsSentence f (Err fault)) (sym read) reads),
    subst (λ (ps : List (Option ℕ)). AreKeptLines (before ++ record { line = record { line = line; text = text }; decision = Drop drops.reason } ∷ []) ps) (sym kept_lines) (places_drop before old.kept_lines.items are line text drops.reason),
  );
  keeps = stays ∙ sym (append-nil old.kept.items);
  drops = drops.drops;
}

-- If the vocabulary v is that of the grammar, reading a line with v has the same result as reading the line with the
-- names of the grammar.
pub read_as : (v : Vocabulary) (g : Grammar) → v ≡ vocabulary_of g → (slice text : Text) → slice ≡ text → (found : LineResult) → sentence_in v slice ≡ found → sentence_in (vocabulary_of g) text ≡ found
read_as v g same slice text is found read = sym (ap (λ (u : Vocabulary). sentence_in u slice) same ∙ ap (sentence_in (vocabulary_of g)) is) ∙ read

pub fault_as : (v : Vocabulary) (g : Grammar) → v ≡ vocabulary_of g → (slice text : Text) → slice ≡ text → (fault : SentenceFault) → ReadsSentence (sentence_in v slice) (Err fault) → ReadsSentence (sentence_in (vocabulary_of g) text) (Err fault)
fault_as v g same slice text is fault reads = subst (λ (f : LineResult). ReadsSentence f (Err fault)) (ap (λ (u : Vocabulary). sentence_in u slice) same ∙ ap (sentence_in (vocabulary_of g)) is) reads

-- The canonical line, the comment lines and the line of the expected tokens are appended one after the other.
module _ (g : Grammar) (a : Automaton) (t : TableData) (x : Sentence) (state : ℕ) (reduced tokens : List ℕ) (items : List KernelItem) (same : tokens ≡ x.tokens) (are : items ≡ (kernel_at a state).items) (old t1 t2 t3 : Text)
    (first : t1 ≡ old ++ sentence_text g x.start tokens) (second : t2 ≡ t1 ++ 10 ∷ []) where
  lines_written : (item : KernelItem) (more new : Text) → t3 ≡ t2 ++ comments g items state item reduced → new ≡ t3 ++ more
      → new ≡ old ++ (sentence_text g x.start x.tokens ++ 10 ∷ (comments g (kernel_at a state).items state item reduced ++ more))
  lines_written item more new written appended =
      let line = sentence_text g x.start x.tokens in
      let lines = comments g (kernel_at a state).items state item reduced in
      let begun : t2 ≡ (old ++ line) ++ 10 ∷ [] = second ∙ ap (λ (l : Text). l ++ 10 ∷ []) (first ∙ ap (λ (l : List ℕ). old ++ sentence_text g x.start l) same) in
      let front : t3 ≡ ((old ++ line) ++ 10 ∷ []) ++ lines = written ∙ ap (λ (l : List KernelItem). t2 ++ comments g l state item reduced) are ∙ ap (λ (l : Text). l ++ lines) begun in
      appended ∙ ap (λ (l : Text). l ++ more) front ∙ append_assoc ((old ++ line) ++ 10 ∷ []) lines more ∙ append_assoc (old ++ line) (10 ∷ []) (lines ++ more) ∙ append_assoc old line (10 ∷ (lines ++ more))

  pub kept_plainly : AppendsComments g items state reduced t2 t3 → WritesKeptSentence false g a t x state reduced old t3
  kept_plainly (item, farthest, written) = record {
    item = item;
    farthest = subst (λ (l : List KernelItem). HasFarthestDot l item) are farthest;
    more = [];
    is_more = refl;
    written = lines_written item [] t3 written (sym (append-nil t3));
  }

  pub kept_with_expected : (new : Text) → AppendsComments g items state reduced t2 t3 → AppendsExpected g t x.start tokens t3 new → WritesKeptSentence true g a t x state reduced old new
  kept_with_expected new (item, farthest, written) (list, expected_are, appended) = record {
    item = item;
    farthest = subst (λ (l : List KernelItem). HasFarthestDot l item) are farthest;
    more = expected_comment g list;
    is_more = (list, subst (λ (l : List ℕ). ExpectedTokens t x.start (take (length l - 1) l) list) same expected_are, refl);
    written = lines_written item (expected_comment g list) new written appended;
  }
