-- Proves that the decisions on the lines of a file and its rebased text are unique.
use Rattle.std.proofs.Common.{◌≡◌, Bool, ◌<◌, ◌-◌, ◌+◌, ℕ, List, [], ◌∷◌, ◌++◌, length, map, drop, filter, Option, None, Some, refl, sym, ◌∙◌, ap, ap₂, subst, arith, false}
use Rattle.mh_grammar.proofs.Lists.{first_same}
use Rattle.mh_grammar.specs.declared.types.Grammar.{Grammar}
use Rattle.mh_grammar.specs.declared.types.Sentence.{Sentence}
use Rattle.mh_grammar.specs.Text.{Text}
use Rattle.mh_items_kernels.specs.KernelTypes.{Automaton}
use Rattle.mh_tables_core.specs.Table.{TableData}
use Rattle.mh_tables_core.specs.Run.{Rejected, VerdictOf, initial}
use Rattle.mh_tables_core.specs.Failing.{CatalogueRow, Fails}
use Rattle.mh_tables_core.proofs.OneCatalogue.{catalogue_once}
use Rattle.mh_tables_core.proofs.RunEnds.{ending_unique}
use Rattle.mh_run.specs.Verdicts.{ending_for}
use Rattle.mh_run.specs.declared.outcome.Verdict.{Verdict}
use Rattle.mh_run.specs.declared.outcome.Verdict.TheVariants as verdicts
use Rattle.mh_msgfile.specs.Sentences.{Vocabulary, vocabulary_of, LineResult, IsSentence, IsUnreadable, NamesNoStart, LacksStart, NamesUnknown, sentence_in}
use Rattle.mh_msgfile.specs.declared.loose.LooseLine.{LooseLine}
use Rattle.mh_msgfile.specs.declared.loose.LooseEntry.{LooseEntry}
use Rattle.mh_msgfile.specs.declared.loose.LooseFile.{LooseFile}
use Rattle.mh_check.specs.Checks.{IsNoRefusal}
use Rattle.mh_check.proofs.CheckedOnce.{no_refusal_not_rejected}
use Rattle.mh_report.specs.Comments.{IsCommentBlock}
use Rattle.mh_report.specs.CatalogueTexts.{AreEntries}
use Rattle.mh_report.proofs.AreEntries.{entries_once}
use Rattle.mh_report.proofs.OneCommentText.{block_once}
use Rattle.mh_rebase.specs.declared.reason.DropReason.{DropReason}
use Rattle.mh_rebase.specs.declared.reason.DropReason.TheVariants as reasons
use Rattle.mh_rebase.specs.Decisions.{Decision, Keep, Drop, DecidedLine, kept_line, IsReason, LineIsUnreadable, StartIsUnknown, StartIsMissing, TokenIsUnknown, SentenceIsNotRefused, SentenceIsRefusedEarly, StateIsShared, IsDecision, AreDecided}
use Rattle.mh_rebase.specs.RebasedText.{DecidedEntry, without_decisions, lines_in, is_new_row, kept_entries_text, dropped_entries_text, IsRebased}
use Rattle.mh_rebase.proofs.AllAreKept.{reason_never, state_once}
use Rattle.mh_rebase.proofs.IsWritten.{decided_split}

-- ---- Reasons.

abbrev fault_reason : LineResult → Option DropReason
fault_reason (IsSentence x) = None
fault_reason IsUnreadable = Some reasons.Unreadable
fault_reason (NamesNoStart name) = Some (reasons.UnknownStart name)
fault_reason LacksStart = Some reasons.MissingStart
fault_reason (NamesUnknown name) = Some (reasons.UnknownToken name)

same_verdict : (v w : Verdict) → ending_for v ≡ ending_for w → v ≡ w
same_verdict (verdicts.Accept read) (verdicts.Accept read') is = cc
same_verdict (verdicts.Accept read) (verdicts.Overshoot state) is = cc
same_verdict (verdicts.Accept read) (verdicts.Reject at state) is = cc
same_verdict (verdicts.Overshoot state) (verdicts.Accept read) is = cc
same_verdict (verdicts.Overshoot state) (verdicts.Overshoot state') is = cc
same_verdict (verdicts.Overshoot state) (verdicts.Reject at state') is = cc
same_verdict (verdicts.Reject at state) (verdicts.Accept read) is = cc
same_verdict (verdicts.Reject at state) (verdicts.Overshoot state') is = cc
same_verdict (verdicts.Reject at state) (verdicts.Reject at' state') is = cc

-- A reason that follows from the run of the sentence.
data RunReason (t : TableData) (before : List DecidedLine) (x : Sentence) : DropReason → Type 0 where
  Unrefused : (verdict : Verdict) → IsNoRefusal (ending_for verdict) → VerdictOf t x.start x.tokens (ending_for verdict) → RunReason t before x (reasons.NotRefused verdict)
  Early : (at s : ℕ) → at + 1 < length x.tokens → VerdictOf t x.start x.tokens (Rejected at s) → RunReason t before x (reasons.RefusedEarly at)
  Shares : (s line : ℕ) → Fails t x.start x.tokens s → kept_line before s ≡ Some line → RunReason t before x (reasons.SharedState s line)

data ReasonBy (v : Vocabulary) (t : TableData) (before : List DecidedLine) (text : Text) (reason : DropReason) : Type 0 where
  ByFault : fault_reason (sentence_in v text) ≡ Some reason → ReasonBy v t before text reason
  ByRun : (x : Sentence) → sentence_in v text ≡ IsSentence x → RunReason t before x reason → ReasonBy v t before text reason

module _ (t : TableData) (before : List DecidedLine) where
  run_once : (x : Sentence) (r q : DropReason) → RunReason t before x r → RunReason t before x q → r ≡ q
  run_once x r q (Unrefused verdict accepts ends) (Unrefused verdict' accepts' ends') = ap reasons.NotRefused (same_verdict verdict verdict' (ending_unique t (initial x.start x.tokens) _ _ ends ends'))
  run_once x r q (Unrefused verdict accepts ends) (Early at s early ends') = absurd (no_refusal_not_rejected (ending_for verdict) at s accepts (ending_unique t (initial x.start x.tokens) _ _ ends ends'))
  run_once x r q (Unrefused verdict accepts ends) (Shares s line fails kept) = absurd (no_refusal_not_rejected (ending_for verdict) (length x.tokens - 1) s accepts (ending_unique t (initial x.start x.tokens) _ _ ends fails.verdict))
  run_once x r q (Early at s early ends) (Unrefused verdict accepts ends') = absurd (no_refusal_not_rejected (ending_for verdict) at s accepts (ending_unique t (initial x.start x.tokens) _ _ ends' ends))
  run_once x r q (Early at s early ends) (Early at' s' early' ends') =
      let same : Rejected at s ≡ Rejected at' s' = ending_unique t (initial x.start x.tokens) _ _ ends ends' in
      let place : at ≡ at' = cc in ap reasons.RefusedEarly place
  run_once x r q (Early at s early ends) (Shares s' line fails kept) =
      let same : Rejected at s ≡ Rejected (length x.tokens - 1) s' = ending_unique t (initial x.start x.tokens) _ _ ends fails.verdict in
      let place : at ≡ length x.tokens - 1 = cc in absurd (let no : ⊥ = omega (arith, early, place) in no)
  run_once x r q (Shares s line fails kept) (Unrefused verdict accepts ends) = absurd (no_refusal_not_rejected (ending_for verdict) (length x.tokens - 1) s accepts (ending_unique t (initial x.start x.tokens) _ _ ends fails.verdict))
  run_once x r q (Shares s line fails kept) (Early at s' early ends) =
      let same : Rejected at s' ≡ Rejected (length x.tokens - 1) s = ending_unique t (initial x.start x.tokens) _ _ ends fails.verdict in
      let place : at ≡ length x.tokens - 1 = cc in absurd (let no : ⊥ = omega (arith, early, place) in no)
  run_once x r q (Shares s line fails kept) (Shares s' line' fails' kept') =
      let same : Rejected (length x.tokens - 1) s ≡ Rejected (length x.tokens - 1) s' = ending_unique t (initial x.start x.tokens) _ _ fails.verdict fails'.verdict in
      let state : s ≡ s' = cc in
      let both : Some line ≡ Some line' = sym kept ∙ ap (kept_line before) state ∙ kept' in
      let number : line ≡ line' = cc in ap₂ reasons.SharedState state number

  module _ (v : Vocabulary) (text : Text) where
    reason_by : (r : DropReason) → IsReason v t before text r → ReasonBy v t before text r
    reason_by r (LineIsUnreadable read) = ByFault (ap fault_reason read)
    reason_by r (StartIsUnknown name read) = ByFault (ap fault_reason read)
    reason_by r (StartIsMissing read) = ByFault (ap fault_reason read)
    reason_by r (TokenIsUnknown name read) = ByFault (ap fault_reason read)
    reason_by r (SentenceIsNotRefused x verdict read accepts ends) = ByRun x read (Unrefused verdict accepts ends)
    reason_by r (SentenceIsRefusedEarly x at s read early ends) = ByRun x read (Early at s early ends)
    reason_by r (StateIsShared x s line read fails kept) = ByRun x read (Shares s line fails kept)

    by_once : (r q : DropReason) → ReasonBy v t before text r → ReasonBy v t before text q → r ≡ q
    by_once r q (ByFault is) (ByFault is') = (let both : Some r ≡ Some q = sym is ∙ is' in cc)
    by_once r q (ByFault is) (ByRun x read run) = (let both : Some r ≡ None = sym is ∙ ap fault_reason read in cc)
    by_once r q (ByRun x read run) (ByFault is) = (let both : Some q ≡ None = sym is ∙ ap fault_reason read in cc)
    by_once r q (ByRun x read run) (ByRun y read' run') =
        let both : IsSentence y ≡ IsSentence x = sym read' ∙ read in
        let same : y ≡ x = cc in run_once x r q run (subst (λ (z : Sentence). RunReason t before z q) same run')

    pub reason_once : (r q : DropReason) → IsReason v t before text r → IsReason v t before text q → r ≡ q
    reason_once r q is is' = by_once r q (reason_by r is) (reason_by q is')

-- ---- The decisions on the lines and entries are unique.

module _ (expected : Bool) (g : Grammar) (a : Automaton) (t : TableData) where
  decision_once : (before : List DecidedLine) (text : Text) (d e : Decision) → IsDecision expected g a t before text d → IsDecision expected g a t before text e → d ≡ e
  decision_once before text (Drop r) (Drop q) is is' = ap Drop (reason_once t before (vocabulary_of g) text r q is is')
  decision_once before text (Drop r) (Keep x s lines) is is' = absurd (reason_never g t before text x s r is is'.read is'.fails is'.first)
  decision_once before text (Keep x s lines) (Drop r) is is' = absurd (reason_never g t before text x s r is' is.read is.fails is.first)
  decision_once before text (Keep x s lines) (Keep y r lines') is is' =
      let both : IsSentence x ≡ IsSentence y = sym is.read ∙ is'.read in
      let same : x ≡ y = cc in
      let failing : Fails t y.start y.tokens s = subst (λ (z : Sentence). Fails t z.start z.tokens s) same is.fails in
      let state : s ≡ r = state_once g t y.start y.tokens s r failing is'.fails in
      let text_is : lines ≡ lines' = block_once g a t expected y.start y.tokens lines lines' (subst (λ (z : Sentence). IsCommentBlock expected g a t z.start z.tokens lines) same is.commented) is'.commented in λ i. Keep (same i) (state i) (text_is i)

  one_decided : (before : List DecidedLine) (j k : DecidedLine) → j.line ≡ k.line → IsDecision expected g a t before j.line.text j.decision → IsDecision expected g a t before k.line.text k.decision → j ≡ k
  one_decided before j k line is is' =
      let decision = decision_once before k.line.text j.decision k.decision (subst (λ (l : LooseLine). IsDecision expected g a t before l.text j.decision) line is) is' in λ i. record { line = line i; decision = decision i }

  decided_once : (before js ks : List DecidedLine) → map (λ (j : DecidedLine). j.line) js ≡ map (λ (j : DecidedLine). j.line) ks → AreDecided expected g a t before js → AreDecided expected g a t before ks → js ≡ ks
  decided_once before [] [] same p q = refl
  decided_once before [] (k ∷ ks) same p q = absurd (cc)
  decided_once before (j ∷ js) [] same p q = absurd (cc)
  decided_once before (j ∷ js) (k ∷ ks) same p q =
      let line : j.line ≡ k.line = first_same _ _ _ _ same in
      let one = one_decided before j k line p.0 q.0 in
      let later = decided_once (before ++ k ∷ []) js ks (ap (drop 1) same) (subst (λ (i : DecidedLine). AreDecided expected g a t (before ++ i ∷ []) js) one p.1) q.1 in λ i. one i ∷ later i

  decided_entries_once : (before : List DecidedLine) (es fs : List DecidedEntry) → map without_decisions es ≡ map without_decisions fs → AreDecided expected g a t before (lines_in es) → AreDecided expected g a t before (lines_in fs) → es ≡ fs
  decided_entries_once before [] [] same p q = refl
  decided_entries_once before [] (f ∷ fs) same p q = absurd (cc)
  decided_entries_once before (e ∷ es) [] same p q = absurd (cc)
  decided_entries_once before (e ∷ es) (f ∷ fs) same p q =
      let one : without_decisions e ≡ without_decisions f = first_same _ _ _ _ same in
      let first = decided_split expected g a t before e.sentences (lines_in es) p in
      let second = decided_split expected g a t before f.sentences (lines_in fs) q in
      let sentences = decided_once before e.sentences f.sentences (ap (λ (x : LooseEntry). x.sentences) one) first.0 second.0 in
      let message : e.message ≡ f.message = ap (λ (x : LooseEntry). x.message) one in
      let later = decided_entries_once (before ++ f.sentences) es fs (ap (drop 1) same) (subst (λ (js : List DecidedLine). AreDecided expected g a t (before ++ js) (lines_in es)) sentences first.1) second.1 in
      λ i. record { sentences = sentences i; message = message i } ∷ later i

  pub rebased_once : (file : LooseFile) (x y : Text) → IsRebased expected g a t file x → IsRebased expected g a t file y → x ≡ y
  rebased_once file x y p q =
      let entries : p.entries ≡ q.entries = decided_entries_once [] p.entries q.entries (p.of_file ∙ sym q.of_file) p.decided q.decided in
      let rows : p.rows ≡ q.rows = catalogue_once t p.rows q.rows p.catalogue q.catalogue in
      let new_rows : filter (is_new_row (lines_in p.entries)) p.rows ≡ filter (is_new_row (lines_in q.entries)) q.rows = ap₂ (λ (es : List DecidedEntry) (rs : List CatalogueRow). filter (is_new_row (lines_in es)) rs) entries rows in
      let new : p.new ≡ q.new = entries_once expected g a t (filter (is_new_row (lines_in q.entries)) q.rows) p.new q.new (subst (λ (rs : List CatalogueRow). AreEntries expected g a t rs p.new) new_rows p.are_new) q.are_new in
      p.is ∙ ap₂ (λ (es : List DecidedEntry) (l : Text). (kept_entries_text g es ++ l) ++ dropped_entries_text es) entries new ∙ sym q.is
