-- Proves that a file is kept whole if each of its sentences fails and no two fail in one state.
use Rattle.std.proofs.Common.{◌≡◌, ◌-◌, ℕ, Bool, true, ◌||◌, List, [], ◌∷◌, ◌++◌, length, map, drop, Option, None, Some, refl, sym, ◌∙◌, ap, subst, inl, inr, arith, append_assoc}
use Rattle.std.specs.List.{AllByRecursion, Contains}
use Rattle.std.proofs.lemmas.List.Elements.{Contains-append_right}
use Rattle.std.proofs.lemmas.Grind.{flat_map-append}
use Rattle.mh_grammar.proofs.Lists.{contains_here, contains_none, contains_cases, first_same, recursion_contains}
use Rattle.mh_grammar.specs.Edges.{IsRising}
use Rattle.mh_grammar.specs.declared.types.Grammar.{Grammar}
use Rattle.mh_grammar.specs.declared.types.Sentence.{Sentence}
use Rattle.mh_grammar.specs.Text.{Text}
use Rattle.mh_items_kernels.specs.KernelTypes.{Automaton}
use Rattle.mh_tables_core.specs.Table.{TableData}
use Rattle.mh_tables_core.specs.Run.{Rejected, initial}
use Rattle.mh_tables_core.specs.Failing.{Fails}
use Rattle.mh_tables_core.proofs.RunEnds.{ending_unique}
use Rattle.mh_run.specs.Verdicts.{ending_for}
use Rattle.mh_msgfile.specs.Sentences.{vocabulary_of, LineResult, IsSentence, IsUnreadable, NamesNoStart, LacksStart, NamesUnknown, has_items, sentence_in}
use Rattle.mh_msgfile.proofs.PrintedAgain.{found_in, contents_of, content_at, IsGood, AreGood}
use Rattle.mh_check.proofs.CheckedOnce.{no_refusal_not_rejected}
use Rattle.mh_rebase.specs.declared.reason.DropReason.{DropReason}
use Rattle.mh_rebase.specs.Decisions.{Decision, Keep, Drop, DecidedLine, is_keep, kept_line, IsReason, LineIsUnreadable, StartIsUnknown, StartIsMissing, TokenIsUnknown, SentenceIsNotRefused, SentenceIsRefusedEarly, StateIsShared, IsDecision, AreDecided}
use Rattle.mh_rebase.specs.RebasedText.{has_kept, dropped_line_text, dropped_lines_text}
use Rattle.mh_rebase.proofs.StatesOfSentences.{FailingSentence, OtherState, content, failing_of_decision, failing_of_lines, sentence_of_kept_line, FailsThere}
use Rattle.mh_rebase.proofs.IsWritten.{kept_content, kept_contents}

abbrev pub IsKeep : DecidedLine → Type 0
IsKeep j = is_keep j.decision ≡ true

abbrev pub texts_in : List DecidedLine → List Text
texts_in js = map (λ (j : DecidedLine). j.line.text) js

-- If all sentences of a list fail in different states, each sentence before z fails in another state than z.
pub rising_before : (xs : List FailingSentence) (z : FailingSentence) (zs : List FailingSentence) → IsRising OtherState (xs ++ z ∷ zs) → (y : FailingSentence) → Contains xs y → OtherState y z
rising_before xs z zs rising y c = before xs rising y c
  where
    last : (xs : List FailingSentence) (x : FailingSentence) → AllByRecursion (OtherState x) (xs ++ z ∷ zs) → OtherState x z
    last xs x all = recursion_contains (OtherState x) (xs ++ z ∷ zs) all z (Contains-append_right xs (z ∷ zs) z (contains_here z zs))

    before : (xs : List FailingSentence) → IsRising OtherState (xs ++ z ∷ zs) → (y : FailingSentence) → Contains xs y → OtherState y z
    before [] rising y c = absurd (contains_none y c)
    before (x ∷ xs) rising y c = elim (contains_cases x xs y c) [ inl is ↦ subst (λ (p : FailingSentence). OtherState p z) is (last xs x rising.0) | inr more ↦ before xs rising.1 y more ]

module _ (g : Grammar) (t : TableData) where
  pub state_once : (start : ℕ) (w : List ℕ) (s r : ℕ) → Fails t start w s → Fails t start w r → s ≡ r
  state_once start w s r p q = let same : Rejected (length w - 1) s ≡ Rejected (length w - 1) r = ending_unique t (initial start w) _ _ p.verdict q.verdict in cc

  -- No drop reason applies to a line whose sentence is to be kept.
  pub reason_never : (before : List DecidedLine) (text : Text) (x : Sentence) (s : ℕ) (reason : DropReason) → IsReason (vocabulary_of g) t before text reason → sentence_in (vocabulary_of g) text ≡ IsSentence x → Fails t x.start x.tokens s → kept_line before s ≡ None → ⊥
  reason_never before text x s reason (LineIsUnreadable read) is fails none = (let same : IsUnreadable ≡ IsSentence x = sym read ∙ is in cc)
  reason_never before text x s reason (StartIsUnknown name read) is fails none = (let same : NamesNoStart name ≡ IsSentence x = sym read ∙ is in cc)
  reason_never before text x s reason (StartIsMissing read) is fails none = (let same : LacksStart ≡ IsSentence x = sym read ∙ is in cc)
  reason_never before text x s reason (TokenIsUnknown name read) is fails none = (let same : NamesUnknown name ≡ IsSentence x = sym read ∙ is in cc)
  reason_never before text x s reason (SentenceIsNotRefused y verdict read accepts ends) is fails none =
      let both : IsSentence y ≡ IsSentence x = sym read ∙ is in
      let same : x ≡ y = cc in
      let failing : Fails t y.start y.tokens s = subst (λ (u : Sentence). Fails t u.start u.tokens s) same fails in
      no_refusal_not_rejected (ending_for verdict) (length y.tokens - 1) s accepts (ending_unique t (initial y.start y.tokens) _ _ ends failing.verdict)
  reason_never before text x s reason (SentenceIsRefusedEarly y at r read early ends) is fails none =
      let both : IsSentence y ≡ IsSentence x = sym read ∙ is in
      let same : x ≡ y = cc in
      let failing : Fails t y.start y.tokens s = subst (λ (u : Sentence). Fails t u.start u.tokens s) same fails in
      let ending : Rejected at r ≡ Rejected (length y.tokens - 1) s = ending_unique t (initial y.start y.tokens) _ _ ends failing.verdict in
      let place : at ≡ length y.tokens - 1 = cc in omega (arith, early, place)
  reason_never before text x s reason (StateIsShared y r line read failing kept) is fails none =
      let both : IsSentence y ≡ IsSentence x = sym read ∙ is in
      let same : y ≡ x = cc in
      let state : r ≡ s = state_once x.start x.tokens r s (subst (λ (u : Sentence). Fails t u.start u.tokens r) same failing) fails in
      let no : Some line ≡ None = sym kept ∙ ap (kept_line before) state ∙ none in cc

module _ (expected : Bool) (g : Grammar) (a : Automaton) (t : TableData) where
  -- ---- All lines are kept.

  free_line : (before : List DecidedLine) (s : ℕ) (o : Option ℕ) → kept_line before s ≡ o → ((y : FailingSentence) → Contains (failing_of_lines before) y → y.1 ≡ s → ⊥) → kept_line before s ≡ None
  free_line before s None is free = is
  free_line before s (Some n) is free = let found = sentence_of_kept_line before s n is in absurd (free found.0 found.1 found.2)

  keep_by : (before : List DecidedLine) (text : Text) (d : Decision) (x : Sentence) (z : FailingSentence) → IsDecision expected g a t before text d → sentence_in (vocabulary_of g) text ≡ IsSentence x → (x.start, x.tokens) ≡ content z → FailsThere expected g a t z → kept_line before z.1 ≡ None
      → (is_keep d ≡ true) × (failing_of_decision d ≡ z ∷ [])
  keep_by before text (Drop reason) x z is read same fails none = absurd (reason_never g t before text x z.1 reason is read (subst (λ (c : ℕ × List ℕ). Fails t c.0 c.1 z.1) (sym same) fails) none)
  keep_by before text (Keep y s lines) x z is read same fails none =
      let both : IsSentence y ≡ IsSentence x = sym is.read ∙ read in
      let one : y ≡ x = cc in
      let here : (y.start, y.tokens) ≡ content z = ap (λ (u : Sentence). (u.start, u.tokens)) one ∙ same in
      let failing : Fails t z.0.0 z.0.1 s = subst (λ (c : ℕ × List ℕ). Fails t c.0 c.1 s) here is.fails in
      let state : s ≡ z.1 = state_once g t z.0.0 z.0.1 s z.1 failing fails in (refl, λ i. (here i, state i) ∷ [])

  good_sentence : (found : LineResult) → IsGood g found → (x : Sentence) × (found ≡ IsSentence x)
  good_sentence (IsSentence x) good = (x, refl)
  good_sentence IsUnreadable good = absurd good
  good_sentence (NamesNoStart name) good = absurd good
  good_sentence LacksStart good = absurd good
  good_sentence (NamesUnknown name) good = absurd good

  abbrev AllKeep : List DecidedLine → List DecidedLine → Type 0
  AllKeep before js = (zs : List FailingSentence) → AreGood g (texts_in js) → contents_of g (texts_in js) ≡ map content zs → AllByRecursion (FailsThere expected g a t) zs → IsRising OtherState (failing_of_lines before ++ zs)
      → AllByRecursion IsKeep js × (failing_of_lines js ≡ zs)

  keep_next : (before js : List DecidedLine) (j : DecidedLine) (x : Sentence) → sentence_in (vocabulary_of g) j.line.text ≡ IsSentence x → IsDecision expected g a t before j.line.text j.decision → AllKeep (before ++ j ∷ []) js → AreGood g (texts_in js)
      → (zs : List FailingSentence) → contents_of g (texts_in (j ∷ js)) ≡ map content zs → AllByRecursion (FailsThere expected g a t) zs → IsRising OtherState (failing_of_lines before ++ zs) → AllByRecursion IsKeep (j ∷ js) × (failing_of_lines (j ∷ js) ≡ zs)
  keep_next before js j x read decided on good zs same fail rising = by zs same fail rising
    where
      contents : contents_of g (texts_in (j ∷ js)) ≡ (x.start, x.tokens) ∷ contents_of g (texts_in js)
      contents = ap (λ (f : LineResult). content_at g f ++ contents_of g (texts_in js)) read

      by : (zs : List FailingSentence) → contents_of g (texts_in (j ∷ js)) ≡ map content zs → AllByRecursion (FailsThere expected g a t) zs → IsRising OtherState (failing_of_lines before ++ zs) → AllByRecursion IsKeep (j ∷ js) × (failing_of_lines (j ∷ js) ≡ zs)
      by [] same fail rising = absurd (let no : (x.start, x.tokens) ∷ contents_of g (texts_in js) ≡ [] = sym contents ∙ same in cc)
      by (z ∷ zs) same fail rising =
          let split : (x.start, x.tokens) ∷ contents_of g (texts_in js) ≡ content z ∷ map content zs = sym contents ∙ same in
          let here : (x.start, x.tokens) ≡ content z = first_same (x.start, x.tokens) (content z) (contents_of g (texts_in js)) (map content zs) split in
          let later : contents_of g (texts_in js) ≡ map content zs = ap (drop 1) split in
          let none = free_line before z.1 (kept_line before z.1) refl (rising_before (failing_of_lines before) z zs rising) in
          let one = keep_by before j.line.text j.decision x z decided read here fail.0 none in
          let placed : failing_of_lines (before ++ j ∷ []) ≡ failing_of_lines before ++ z ∷ [] = flat_map-append (λ (k : DecidedLine). failing_of_decision k.decision) before (j ∷ []) ∙ ap (λ (l : List FailingSentence). failing_of_lines before ++ (l ++ [])) one.1 in
          let next : IsRising OtherState (failing_of_lines (before ++ j ∷ []) ++ zs) = subst (IsRising OtherState) (sym (ap (λ (l : List FailingSentence). l ++ zs) placed ∙ append_assoc (failing_of_lines before) (z ∷ []) zs)) rising in
          let more = on zs good later fail.1 next in
          ((one.0, more.0), ap (λ (l : List FailingSentence). l ++ failing_of_lines js) one.1 ∙ ap (λ (l : List FailingSentence). z ∷ l) more.1)

  pub all_keep : (before js : List DecidedLine) → AreDecided expected g a t before js → AllKeep before js
  all_keep before [] decided [] good same fail rising = (tt, refl)
  all_keep before [] decided (z ∷ zs) good same fail rising = absurd (cc)
  all_keep before (j ∷ js) decided zs good same fail rising =
      let one = good_sentence (found_in g j.line.text) good.0 in keep_next before js j one.0 one.1 decided.0 (all_keep (before ++ j ∷ []) js decided.1) good.1 zs same fail rising

  -- ---- The text if all lines are kept.

  pub no_drops : (js : List DecidedLine) → AllByRecursion IsKeep js → dropped_lines_text js ≡ []
  no_drops [] all = refl
  no_drops (j ∷ js) all = ap (λ (l : Text). l ++ dropped_lines_text js) (no_drop j.line.line j.decision all.0) ∙ no_drops js all.1
    where
      no_drop : (line : ℕ) (d : Decision) → is_keep d ≡ true → dropped_line_text line d ≡ []
      no_drop line (Keep x s lines) is = refl
      no_drop line (Drop reason) is = cc

  keep_content : (before : List DecidedLine) (text : Text) (d : Decision) → IsDecision expected g a t before text d → is_keep d ≡ true → kept_content d ≡ content_at g (found_in g text)
  keep_content before text (Keep x s lines) is keep = sym (ap (content_at g) is.read)
  keep_content before text (Drop reason) is keep = cc

  pub keep_contents : (before js : List DecidedLine) → AreDecided expected g a t before js → AllByRecursion IsKeep js → kept_contents js ≡ contents_of g (texts_in js)
  keep_contents before [] decided all = refl
  keep_contents before (j ∷ js) decided all =
      ap (λ (l : List (ℕ × List ℕ)). l ++ kept_contents js) (keep_content before j.line.text j.decision decided.0 all.0) ∙ ap (λ (l : List (ℕ × List ℕ)). content_at g (found_in g j.line.text) ++ l) (keep_contents (before ++ j ∷ []) js decided.1 all.1)

  pub some_keep : (js : List DecidedLine) → AllByRecursion IsKeep js → has_items js ≡ true → has_kept js ≡ true
  some_keep [] all some = some
  some_keep (j ∷ js) all some = ap (λ (b : Bool). b || has_kept js) all.0
