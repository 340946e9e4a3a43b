-- Proves the contract of the decision on a line, from the verdict on its sentence or from its fault.
use Rattle.std.proofs.Common.{◌≡◌, ◌<◌, ◌≤◌, ◌+◌, ◌-◌, ℕ, List, [], ◌∷◌, ◌++◌, length, set, Option, Some, refl, sym, ◌∙◌, subst, arith, append-nil}
use Rattle.std.specs.Prelude.{Err}
use Rattle.std.specs.List.{All}
use Rattle.std.proofs.Math.Numerals.{lt_of_le_of_ne}
use Rattle.std.proofs.lemmas.List.Elements.{recursion_from_All}
use Rattle.mh_grammar.specs.declared.types.Grammar.{Grammar}
use Rattle.mh_grammar.specs.declared.types.Sentence.{Sentence}
use Rattle.mh_grammar.specs.Plain.{PlainGrammar, plain_of}
use Rattle.mh_grammar.specs.Text.{Text}
use Rattle.mh_tables_core.specs.Table.{TableData}
use Rattle.mh_tables_core.specs.Facts.{Facts}
use Rattle.mh_tables_core.specs.Run.{VerdictOf, Rejected}
use Rattle.mh_tables_core.specs.Failing.{Fails}
use Rattle.mh_tables_core.proofs.RefusalIsCut.{verdict_cut}
use Rattle.mh_tables_core.proofs.RefusingState.{refusing_state_known}
use Rattle.mh_run.specs.Verdicts.{ending_for}
use Rattle.mh_run.specs.declared.outcome.Verdict.{Verdict}
use Rattle.mh_run.specs.declared.outcome.Verdict.TheVariants as verdicts
use Rattle.mh_msgfile.specs.Sentences.{vocabulary_of, LineResult, IsSentence, sentence_in, ReadsSentence}
use Rattle.mh_msgfile.specs.declared.sentence.SentenceFault.{SentenceFault}
use Rattle.mh_rebase.specs.declared.reason.DropReason.{DropReason}
use Rattle.mh_rebase.specs.declared.reason.DropReason.TheVariants as reasons
use Rattle.mh_rebase.specs.Decisions.{Keep, Drop, DecidedLine, IsReason, SentenceIsNotRefused, SentenceIsRefusedEarly, StateIsShared}
use Rattle.mh_rebase.specs.code.Reasons.{IsReasonOfVerdict, IsStateToKeep}
use Rattle.mh_rebase.specs.code.Parts.{AreKeptLines}
use Rattle.mh_rebase.proofs.AreKeptLines.{places_drop, places_keep}
use Rattle.mh_rebase.specs.ErrorLines.{decision_text}
use Rattle.mh_lint_messages.specs.code.Findings.{DecidesLine, WritesFault}
use Rattle.mh_lint_messages.specs.declared.lines.Findings.{Findings}

-- A sentence within the grammar of the table, with the verdict on the sentence.
pub record Judged (g : Grammar) (t : TableData) (x : Sentence) (verdict : Verdict) : Type 0 where
  pub start : x.start < length g.starts
  pub tokens : All (λ z. z < length g.tokens) x.tokens
  pub ends : VerdictOf t x.start x.tokens (ending_for verdict)

module _ (g : Grammar) (t : TableData) (facts : Facts t) (same : t.grammar ≡ plain_of g) (x : Sentence) (verdict : Verdict) (run : Judged g t x verdict) where
  start_known : x.start < length t.grammar.starts
  start_known = subst (λ (h : PlainGrammar). x.start < length h.starts) (sym same) run.start

  tokens_known : All (λ z. z < t.grammar.tokens) x.tokens
  tokens_known = subst (λ (h : PlainGrammar). All (λ z. z < h.tokens) x.tokens) (sym same) run.tokens

  rejected : (at s : ℕ) → verdict ≡ verdicts.Reject at s → VerdictOf t x.start x.tokens (Rejected at s)
  rejected at s is = subst (λ (v : Verdict). VerdictOf t x.start x.tokens (ending_for v)) is run.ends

  fails : (at s : ℕ) → verdict ≡ verdicts.Reject at s → at + 1 ≡ length x.tokens → Fails t x.start x.tokens s
  fails at s is last = record {
    sentence = record { known = start_known; tokens = recursion_from_All (λ z. z < t.grammar.tokens) x.tokens tokens_known };
    some_token = omega (arith, last);
    verdict = (let place : at ≡ length x.tokens - 1 = omega (arith, last) in subst (λ (k : ℕ). VerdictOf t x.start x.tokens (Rejected k s)) place (rejected at s is));
  }

  -- A state in which a sentence fails is a state of the table.
  pub state_below : (tokens : ℕ) (kept : List (Option ℕ)) (s : ℕ) → IsStateToKeep verdict tokens kept s → s < length t.states
  state_below tokens kept s keep = refusing_state_known t facts x.start x.tokens keep.0 s start_known (rejected keep.0 s keep.1)

  module _ (kept : List (Option ℕ)) (before : List DecidedLine) (are : AreKeptLines before kept) (text : Text) (read : sentence_in (vocabulary_of g) text ≡ IsSentence x) where
    reason_is : (reason : DropReason) → IsReasonOfVerdict verdict (length x.tokens) kept reason → IsReason (vocabulary_of g) t before text reason
    reason_is (reasons.NotRefused other) why = subst (λ (v : Verdict). IsReason (vocabulary_of g) t before text (reasons.NotRefused v)) (sym why.0) (SentenceIsNotRefused x verdict read why.1 run.ends)
    reason_is (reasons.RefusedEarly at) why =
        let here = rejected at why.0 why.1 in
        let within : at < length x.tokens = (verdict_cut t x.start x.tokens at why.0 here).0 in
        let le : at + 1 ≤ length x.tokens = omega (arith, within) in
        SentenceIsRefusedEarly x at why.0 read (lt_of_le_of_ne le why.2) here
    reason_is (reasons.SharedState s line) why = StateIsShared x s line read (fails why.0 s why.1 why.2) (sym (are s) ∙ why.3)
    reason_is reasons.Unreadable why = absurd why
    reason_is (reasons.UnknownStart name) why = absurd why
    reason_is reasons.MissingStart why = absurd why
    reason_is (reasons.UnknownToken name) why = absurd why

  -- The sentence is kept.
  pub adds_kept : (name : Text) (line s : ℕ) (old new : Findings) → IsStateToKeep verdict (length x.tokens) old.kept_lines.items s → s < length old.kept_lines.items → new.text.items ≡ old.text.items
      → new.kept_lines.items ≡ set old.kept_lines.items s (Some line) → DecidesLine g t name line (IsSentence x) old new
  adds_kept name line s old new keep within stays put = record {
    decision = Keep x s [];
    decided = λ before are text read. (
      (read, fails keep.0 s keep.1 keep.2, sym (are s) ∙ keep.3, refl),
      subst (λ (kept_lines : List (Option ℕ)). AreKeptLines (before ++ record { line = record { line = line; text = text }; decision = Keep x s [] } ∷ []) kept_lines) (sym put)
          (places_keep before old.kept_lines.items are line text x s [] within keep.3),
    );
    written = stays ∙ sym (append-nil old.text.items);
  }

  -- The line of the sentence is not kept.
  pub adds_dropped : (name : Text) (line : ℕ) (reason : DropReason) (old new : Findings) → IsReasonOfVerdict verdict (length x.tokens) old.kept_lines.items reason → new.kept_lines.items ≡ old.kept_lines.items
      → new.text.items ≡ old.text.items ++ decision_text name line (Drop reason) → DecidesLine g t name line (IsSentence x) old new
  adds_dropped name line reason old new why kept_lines written = record {
    decision = Drop reason;
    decided = λ before are text read. (
      reason_is old.kept_lines.items before are text read reason why,
      subst (λ (ps : List (Option ℕ)). AreKeptLines (before ++ record { line = record { line = line; text = text }; decision = Drop reason } ∷ []) ps) (sym kept_lines) (places_drop before old.kept_lines.items are line text reason),
    );
    written = written;
  }

-- A line that is no sentence of the grammar is not kept.
pub adds_fault : (g : Grammar) (t : TableData) (name : Text) (line : ℕ) (found : LineResult) (fault : SentenceFault) (old new : Findings) → ReadsSentence found (Err fault) → WritesFault name line fault old.text.items new.text.items → new.kept_lines.items ≡ old.kept_lines.items
    → DecidesLine g t name line found old new
adds_fault g t name line found fault old new reads writes kept_lines = record {
  decision = Drop writes.reason;
  decided = λ before are text read. (
    writes.is (vocabulary_of g) t before text (subst (λ (f : LineResult). ReadsSentence f (Err fault)) (sym read) reads),
    subst (λ (ps : List (Option ℕ)). AreKeptLines (before ++ record { line = record { line = line; text = text }; decision = Drop writes.reason } ∷ []) ps) (sym kept_lines) (places_drop before old.kept_lines.items are line text writes.reason),
  );
  written = writes.written;
}
