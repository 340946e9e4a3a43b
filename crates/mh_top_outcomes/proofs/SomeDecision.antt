-- Proves that each line of a messages file is a sentence to keep, or is dropped for a reason.
use Rattle.std.proofs.Common.{◌≡◌, ℕ, ◌+◌, ◌-◌, ◌<◌, inl, inr, List, length, Option, Some, None, refl, sym, subst, arith}
use Rattle.std.specs.List.{AllByRecursion}
use Rattle.std.proofs.lemmas.Bool.{cases_lt}
use Rattle.mh_grammar.specs.declared.types.Grammar.{Grammar}
use Rattle.mh_grammar.specs.declared.types.Sentence.{Sentence}
use Rattle.mh_grammar.specs.Plain.{PlainGrammar, plain_of}
use Rattle.mh_grammar.specs.Text.{Text}
use Rattle.mh_msgfile.specs.Sentences.{LineResult, IsSentence, IsUnreadable, NamesNoStart, LacksStart, NamesUnknown, sentence_in, vocabulary_of}
use Rattle.mh_msgfile.proofs.SentenceBounds.{sentence_start, sentence_tokens}
use Rattle.mh_check.specs.Checks.{Accepts, Overshoots}
use Rattle.mh_rebase.specs.Decisions.{DecidedLine, LineIsUnreadable, StartIsUnknown, StartIsMissing, TokenIsUnknown, SentenceIsNotRefused, SentenceIsRefusedEarly, StateIsShared, IsReason, kept_line}
use Rattle.mh_rebase.specs.declared.reason.DropReason.{DropReason}
use Rattle.mh_rebase.specs.declared.reason.DropReason.TheVariants as reasons
use Rattle.mh_run.specs.declared.outcome.Verdict.TheVariants.{Accept, Overshoot}
use Rattle.mh_tables_core.specs.Table.{TableData}
use Rattle.mh_tables_core.specs.Failing.{Fails}
use Rattle.mh_tables_core.specs.Halting.{HaltingFacts}
use Rattle.mh_tables_core.specs.Run.{Ending, Accepted, Overshot, Rejected, VerdictOf}
use Rattle.mh_tables_core.proofs.RefusalIsCut.{verdict_cut}
use Rattle.mh_tables_core.proofs.RunEnds.{has_verdict}

-- A sentence that is refused at its last token fails.
pub fails_at_last : (t : TableData) (start : ℕ) (w : List ℕ) (at s : ℕ) → start < length t.grammar.starts → AllByRecursion (λ z. z < t.grammar.tokens) w → at + 1 ≡ length w → VerdictOf t start w (Rejected at s) → Fails t start w s
fails_at_last t start w at s known tokens last v = record {
  sentence = record { known = known; tokens = tokens };
  some_token = omega (arith, last);
  verdict = (let same : at ≡ length w - 1 = omega (arith, last) in subst (λ (k : ℕ). VerdictOf t start w (Rejected k s)) same v);
}

-- The line is a sentence that fails in a state in which no kept sentence fails, or is dropped for a reason. The lines
-- before this line are decided.
pub data KeptOrDropped (g : Grammar) (t : TableData) (before : List DecidedLine) (text : Text) : Type 0 where
  Kept : (x : Sentence) (s : ℕ) → sentence_in (vocabulary_of g) text ≡ IsSentence x → Fails t x.start x.tokens s → kept_line before s ≡ None → KeptOrDropped g t before text
  Dropped : (reason : DropReason) → IsReason (vocabulary_of g) t before text reason → KeptOrDropped g t before text

module _ (g : Grammar) (t : TableData) (h : HaltingFacts t) (same : t.grammar ≡ plain_of g) (before : List DecidedLine) (text : Text) where
  kept_or_shared : (x : Sentence) → sentence_in (vocabulary_of g) text ≡ IsSentence x → (s : ℕ) → Fails t x.start x.tokens s → (o : Option ℕ) → kept_line before s ≡ o → KeptOrDropped g t before text
  kept_or_shared x read s fails (Some line) e = Dropped (reasons.SharedState s line) (StateIsShared x s line read fails e)
  kept_or_shared x read s fails None e = Kept x s read fails e

  module _ (x : Sentence) (read : sentence_in (vocabulary_of g) text ≡ IsSentence x) (known : x.start < length t.grammar.starts) (tokens : AllByRecursion (λ z. z < t.grammar.tokens) x.tokens) where
    by_ending : (how : Ending) → VerdictOf t x.start x.tokens how → KeptOrDropped g t before text
    by_ending (Accepted n) v = Dropped (reasons.NotRefused (Accept n)) (SentenceIsNotRefused x (Accept n) read (Accepts n) v)
    by_ending (Overshot s) v = Dropped (reasons.NotRefused (Overshoot s)) (SentenceIsNotRefused x (Overshoot s) read (Overshoots s) v)
    by_ending (Rejected at s) v = elim (cases_lt (at + 1) (length x.tokens)) [
      | inl early ↦ Dropped (reasons.RefusedEarly at) (SentenceIsRefusedEarly x at s read early v)
      | inr le ↦ (
          let within = (verdict_cut t x.start x.tokens at s v).0 in
          let last : at + 1 ≡ length x.tokens = omega (arith, le, within) in
          kept_or_shared x read s (fails_at_last t x.start x.tokens at s known tokens last v) (kept_line before s) refl)
    ]

  by_content : (l : LineResult) → sentence_in (vocabulary_of g) text ≡ l → KeptOrDropped g t before text
  by_content IsUnreadable e = Dropped reasons.Unreadable (LineIsUnreadable e)
  by_content (NamesNoStart name) e = Dropped (reasons.UnknownStart name) (StartIsUnknown name e)
  by_content LacksStart e = Dropped reasons.MissingStart (StartIsMissing e)
  by_content (NamesUnknown name) e = Dropped (reasons.UnknownToken name) (TokenIsUnknown name e)
  by_content (IsSentence x) e =
      let known : x.start < length t.grammar.starts = subst (λ (p : PlainGrammar). x.start < length p.starts) (sym same) (sentence_start g text x e) in
      let tokens : AllByRecursion (λ z. z < t.grammar.tokens) x.tokens = subst (λ (p : PlainGrammar). AllByRecursion (λ z. z < p.tokens) x.tokens) (sym same) (sentence_tokens g text x e) in
      let how = has_verdict t h x.start x.tokens known tokens in
      by_ending x e known tokens how.0 how.1

  pub kept_or_dropped : KeptOrDropped g t before text
  kept_or_dropped = by_content (sentence_in (vocabulary_of g) text) refl
