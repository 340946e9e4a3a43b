-- Proves that the decisions on the lines of an examined file and the text on the file are unique.
use Rattle.std.proofs.Common.{◌≡◌, List, [], ◌∷◌, ◌++◌, map, drop, filter, refl, sym, ◌∙◌, ap, ap₂, subst, append_assoc, append-nil}
use Rattle.mh_grammar.proofs.Lists.{first_same}
use Rattle.mh_grammar.specs.declared.types.Grammar.{Grammar}
use Rattle.mh_grammar.specs.declared.types.Sentence.{Sentence}
use Rattle.mh_grammar.specs.Text.{Text}
use Rattle.mh_tables_core.specs.Table.{TableData}
use Rattle.mh_tables_core.specs.Failing.{CatalogueRow, Fails}
use Rattle.mh_tables_core.proofs.OneCatalogue.{catalogue_once}
use Rattle.mh_msgfile.specs.Sentences.{vocabulary_of, IsSentence}
use Rattle.mh_msgfile.specs.declared.loose.LooseLine.{LooseLine}
use Rattle.mh_msgfile.specs.declared.loose.LooseEntry.{LooseEntry}
use Rattle.mh_msgfile.specs.declared.blocks.LooseBlocks.{LooseBlocks}
use Rattle.mh_rebase.specs.Decisions.{Decision, Keep, Drop, DecidedLine}
use Rattle.mh_rebase.specs.RebasedText.{DecidedEntry, without_decisions, lines_in, is_new_row}
use Rattle.mh_rebase.proofs.AllAreKept.{reason_never, state_once}
use Rattle.mh_rebase.proofs.RebasedUnique.{reason_once}
use Rattle.mh_rebase.specs.ErrorLines.{IsLineDecision, AreLineDecisions, entries_text, missing_texts, unpaired_text, IsErrorText}

module _ (g : Grammar) (t : TableData) where
  decision_once : (before : List DecidedLine) (text : Text) (d e : Decision) → IsLineDecision g t before text d → IsLineDecision g t before text e → d ≡ e
  decision_once before text (Drop r) (Drop q) is is' = ap Drop (reason_once t before (vocabulary_of g) text r q is is')
  decision_once before text (Drop r) (Keep x s lines) is is' = absurd (reason_never g t before text x s r is is'.0 is'.1 is'.2)
  decision_once before text (Keep x s lines) (Drop r) is is' = absurd (reason_never g t before text x s r is' is.0 is.1 is.2)
  decision_once before text (Keep x s lines) (Keep y r lines') is is' =
      let both : IsSentence x ≡ IsSentence y = sym is.0 ∙ is'.0 in
      let same : x ≡ y = cc in
      let failing : Fails t y.start y.tokens s = subst (λ (z : Sentence). Fails t z.start z.tokens s) same is.1 in
      let state : s ≡ r = state_once g t y.start y.tokens s r failing is'.1 in
      let none : lines ≡ lines' = is.3 ∙ sym is'.3 in λ i. Keep (same i) (state i) (none i)

  one_decided : (before : List DecidedLine) (j k : DecidedLine) → j.line ≡ k.line → IsLineDecision g t before j.line.text j.decision → IsLineDecision g t before k.line.text k.decision → j ≡ k
  one_decided before j k line is is' =
      let decision = decision_once before k.line.text j.decision k.decision (subst (λ (l : LooseLine). IsLineDecision g t before l.text j.decision) line is) is' in λ i. record { line = line i; decision = decision i }

  pub decided_split : (before js ks : List DecidedLine) → AreLineDecisions g t before (js ++ ks) → AreLineDecisions g t before js × AreLineDecisions g t (before ++ js) ks
  decided_split before [] ks all = (tt, subst (λ (l : List DecidedLine). AreLineDecisions g t l ks) (sym (append-nil before)) all)
  decided_split before (j ∷ js) ks all =
      let later = decided_split (before ++ j ∷ []) js ks all.1 in ((all.0, later.0), subst (λ (l : List DecidedLine). AreLineDecisions g t l ks) (append_assoc before (j ∷ []) js) later.1)

  decided_once : (before js ks : List DecidedLine) → map (λ (j : DecidedLine). j.line) js ≡ map (λ (j : DecidedLine). j.line) ks → AreLineDecisions g t before js → AreLineDecisions g t before ks → js ≡ ks
  decided_once before [] [] same p q = refl
  decided_once before [] (k ∷ ks) same p q = absurd (cc)
  decided_once before (j ∷ js) [] same p q = absurd (cc)
  decided_once before (j ∷ js) (k ∷ ks) same p q =
      let line : j.line ≡ k.line = first_same _ _ _ _ same in
      let one = one_decided before j k line p.0 q.0 in
      let later = decided_once (before ++ k ∷ []) js ks (ap (drop 1) same) (subst (λ (i : DecidedLine). AreLineDecisions g t (before ++ i ∷ []) js) one p.1) q.1 in λ i. one i ∷ later i

  entries_once : (before : List DecidedLine) (es fs : List DecidedEntry) → map without_decisions es ≡ map without_decisions fs → AreLineDecisions g t before (lines_in es) → AreLineDecisions g t before (lines_in fs) → es ≡ fs
  entries_once before [] [] same p q = refl
  entries_once before [] (f ∷ fs) same p q = absurd (cc)
  entries_once before (e ∷ es) [] same p q = absurd (cc)
  entries_once before (e ∷ es) (f ∷ fs) same p q =
      let one : without_decisions e ≡ without_decisions f = first_same _ _ _ _ same in
      let first = decided_split before e.sentences (lines_in es) p in
      let second = decided_split before f.sentences (lines_in fs) q in
      let sentences = decided_once before e.sentences f.sentences (ap (λ (x : LooseEntry). x.sentences) one) first.0 second.0 in
      let message : e.message ≡ f.message = ap (λ (x : LooseEntry). x.message) one in
      let later = entries_once (before ++ f.sentences) es fs (ap (drop 1) same) (subst (λ (js : List DecidedLine). AreLineDecisions g t (before ++ js) (lines_in es)) sentences first.1) second.1 in
      λ i. record { sentences = sentences i; message = message i } ∷ later i

  pub error_text_once : (name : Text) (blocks : LooseBlocks) (x y : Text) → IsErrorText g t name blocks x → IsErrorText g t name blocks y → x ≡ y
  error_text_once name blocks x y p q =
      let entries : p.entries ≡ q.entries = entries_once [] p.entries q.entries (p.of_file ∙ sym q.of_file) p.decided q.decided in
      let rows : p.rows ≡ q.rows = catalogue_once t p.rows q.rows p.catalogue q.catalogue in
      p.is ∙ ap₂ (λ (es : List DecidedEntry) (rs : List CatalogueRow). (entries_text name es ++ unpaired_text name blocks.unpaired) ++ missing_texts g (filter (is_new_row (lines_in es)) rs)) entries rows ∙ sym q.is
