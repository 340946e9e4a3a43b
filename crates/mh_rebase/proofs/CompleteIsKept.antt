-- Proves that a messages file that is sound and complete is kept whole.
use Rattle.std.proofs.Common.{◌≡◌, Bool, ℕ, zero, suc, true, false, List, [], ◌∷◌, map, drop, filter, Some, refl, sym, ◌∙◌, ap, subst, inl, inr, arith}
use Rattle.std.specs.Prelude.{slice_get}
use Rattle.std.specs.List.{AllByRecursion, AllZip, Contains}
use Rattle.mh_grammar.proofs.Lists.{contains_here, contains_there, contains_cases, contains_none, first_same}
use Rattle.mh_grammar.specs.Edges.{IsRising}
use Rattle.mh_grammar.specs.declared.types.Grammar.{Grammar}
use Rattle.mh_grammar.specs.Text.{Text}
use Rattle.mh_items_kernels.specs.KernelTypes.{Automaton}
use Rattle.mh_tables_core.specs.Table.{TableData}
use Rattle.mh_tables_core.specs.Failing.{Fails, Failing}
use Rattle.mh_msgfile.specs.Sentences.{has_items}
use Rattle.mh_msgfile.specs.Lines.{HasNoLineFeed}
use Rattle.mh_msgfile.specs.Messages.{blocks, MsgSpells}
use Rattle.mh_msgfile.specs.LooseFiles.{loose_entries, LooseSpells}
use Rattle.mh_msgfile.specs.FileTexts.{HasReadableNames, content_of, entry_content}
use Rattle.mh_msgfile.specs.declared.loose.LooseFile.{LooseFile}
use Rattle.mh_msgfile.specs.declared.messages.MsgSentence.{MsgSentence}
use Rattle.mh_msgfile.specs.declared.messages.MsgFile.{MsgFile}
use Rattle.mh_msgfile.proofs.PrintedAgain.{texts_of, blank_text, is_kept_text, texts_of_blocks, all_filter, all_runs, AreFaultless, right_from, contents, contents_of, content_entries, AreGood}
use Rattle.mh_msgfile.proofs.WrittenEntries.{loose_content, pairs, loose_pairs}
use Rattle.mh_msgfile.proofs.LineEnds.{with_ends, lines_end}
use Rattle.mh_msgfile.proofs.AreLines.{lines_once}
use Rattle.mh_check.specs.Checks.{FailsIn, Sound, sentences_of}
use Rattle.mh_check.proofs.FailsOnce.{fails_once}
use Rattle.mh_rebase.specs.RebasedText.{DecidedEntry, without_decisions, IsRebased}
use Rattle.mh_rebase.specs.EntryTexts.{AreCommented}
use Rattle.mh_rebase.proofs.AllAreKept.{texts_in}
use Rattle.mh_rebase.proofs.IsReadAgain.{content_sentences-entries}
use Rattle.mh_rebase.proofs.RebasedAgain.{ReadsAs, all_stay, texts_are, items_of}
use Rattle.mh_rebase.proofs.StatesOfSentences.{FailingSentence, OtherState, content, HasSentenceIn}

-- ---- Sentences with the states in which they fail.

module _ (t : TableData) where
  abbrev pub Fail : List MsgSentence → Type 0
  Fail xs = (x : MsgSentence) → Contains xs x → (s : ℕ) × FailsIn t x s

  abbrev pub rest_fail : (x : MsgSentence) (xs : List MsgSentence) → Fail (x ∷ xs) → Fail xs
  rest_fail x xs each = λ y c. each y (contains_there x xs y c)

  abbrev pub with_states : (xs : List MsgSentence) → Fail xs → List FailingSentence
  with_states [] each = []
  with_states (x ∷ xs) each = (content_of x, (each x (contains_here x xs)).0) ∷ with_states xs (rest_fail x xs each)

  pub with_states_same : (xs : List MsgSentence) (each : Fail xs) → map content_of xs ≡ map content (with_states xs each)
  with_states_same [] each = refl
  with_states_same (x ∷ xs) each = ap (λ (l : List (ℕ × List ℕ)). content_of x ∷ l) (with_states_same xs (rest_fail x xs each))

  pub with_states_fail : (xs : List MsgSentence) (each : Fail xs) → AllByRecursion (λ (z : FailingSentence). Fails t z.0.0 z.0.1 z.1) (with_states xs each)
  with_states_fail [] each = tt
  with_states_fail (x ∷ xs) each = ((each x (contains_here x xs)).1, with_states_fail xs (rest_fail x xs each))

  all_other : (xs : List MsgSentence) (each : Fail xs) (s : ℕ) → ((j : ℕ) (y : MsgSentence) → slice_get xs j ≡ Some y → FailsIn t y s → ⊥) → AllByRecursion (λ (z : FailingSentence). s ≡ z.1 → ⊥) (with_states xs each)
  all_other [] each s never = tt
  all_other (x ∷ xs) each s never = (
    (λ same. never 0 x refl (subst (λ (r : ℕ). FailsIn t x r) (sym same) (each x (contains_here x xs)).1)),
    all_other xs (rest_fail x xs each) s (λ j y at. never (suc j) y at),
  )

  pub with_states_apart : (xs : List MsgSentence) (each : Fail xs) → ((i j s : ℕ) (x y : MsgSentence) → slice_get xs i ≡ Some x → slice_get xs j ≡ Some y → FailsIn t x s → FailsIn t y s → i ≡ j) → IsRising OtherState (with_states xs each)
  with_states_apart [] each apart = tt
  with_states_apart (x ∷ xs) each apart = (
    all_other xs (rest_fail x xs each) (each x (contains_here x xs)).0
        (λ j y at fails. let no : zero ≡ suc j = apart 0 (suc j) (each x (contains_here x xs)).0 x y refl at (each x (contains_here x xs)).1 fails in absurd (let never : ⊥ = omega (arith, no) in never)),
    with_states_apart xs (rest_fail x xs each) (λ i j s y z at_i at_j in_y in_z. let same : suc i ≡ suc j = apart (suc i) (suc j) s y z at_i at_j in_y in_z in omega (arith, same)),
  )

  pub with_states_has : (xs : List MsgSentence) (each : Fail xs) (x : MsgSentence) (s : ℕ) → Contains xs x → FailsIn t x s → HasSentenceIn (with_states xs each) s
  with_states_has [] each x s c fails = absurd (contains_none x c)
  with_states_has (y ∷ xs) each x s c fails = elim (contains_cases y xs x c) [
    | inl same ↦ (
      (content_of y, (each y (contains_here y xs)).0),
      contains_here (content_of y, (each y (contains_here y xs)).0) (with_states xs (rest_fail y xs each)),
      fails_once t y (each y (contains_here y xs)).0 s (each y (contains_here y xs)).1 (subst (λ (z : MsgSentence). FailsIn t z s) (sym same) fails),
    )
    | inr more ↦ (
        let found = with_states_has xs (rest_fail y xs each) x s more fails in (found.0, contains_there (content_of y, (each y (contains_here y xs)).0) (with_states xs (rest_fail y xs each)) found.0 found.1, found.2)
        )
  ]

-- ---- The entries of a file.

module _ (expected : Bool) (g : Grammar) (a : Automaton) (t : TableData) (has : HasReadableNames g) where
  blocks_read : (es : List DecidedEntry) (bs : List (List Text)) → map loose_content (map without_decisions es) ≡ pairs g has bs → AreFaultless g bs → AllByRecursion (λ (run : List Text). has_items run ≡ true) bs → AllZip (ReadsAs expected g a t) es (contents g bs)
  blocks_read [] [] is right some = tt
  blocks_read [] (block ∷ []) is right some = absurd right
  blocks_read [] (block ∷ message ∷ rest) is right some = absurd (cc)
  blocks_read (e ∷ es) [] is right some = absurd (cc)
  blocks_read (e ∷ es) (block ∷ []) is right some = absurd right
  blocks_read (e ∷ es) (block ∷ message ∷ rest) is right some =
      let one : loose_content (without_decisions e) ≡ (block, with_ends message) = first_same _ _ _ _ is in
      let texts : texts_in e.sentences ≡ block = sym (texts_are e.sentences) ∙ ap (λ (p : List Text × Text). p.0) one in (
        record {
          some = items_of e.sentences (ap has_items texts ∙ some.0);
          good = subst (AreGood g) (sym texts) right.0;
          contents = ap (contents_of g) texts;
          message = ap (λ (p : List Text × Text). p.1) one;
        },
        blocks_read es rest (ap (drop 1) is) right.1 some.1.1,
      )

  runs_some : (bs : List (List Text)) → AllByRecursion (λ (run : List Text). AllByRecursion (λ line. (HasNoLineFeed line × (is_kept_text line ≡ true)) × (blank_text line ≡ false)) run × (has_items run ≡ true)) bs → AllByRecursion (λ (run : List Text). has_items run ≡ true) bs
  runs_some [] all = tt
  runs_some (b ∷ bs) all = (all.0.1, runs_some bs all.1)

  pub complete_stays : (bytes : Text) (file : MsgFile) (loose : LooseFile) (text : Text) → MsgSpells g bytes file → LooseSpells bytes loose → Sound t (sentences_of file) → ((s : ℕ) → Failing t s → (x : MsgSentence) × Contains (sentences_of file) x × FailsIn t x s)
      → IsRebased expected g a t loose text → AreCommented expected g a t (map entry_content file.entries) text
  complete_stays bytes file loose text spells spelled sound complete is =
      let lines = file.lines in
      let bs = map (texts_of lines) (blocks lines) in
      let same : spelled.lines ≡ lines = lines_once bytes spelled.lines spelled.are ∙ sym (lines_once bytes lines spells.lines) in
      let loose_is : loose.entries ≡ loose_entries lines (blocks lines) = spelled.entries ∙ ap (λ (l : List Text). loose_entries l (blocks l)) same in
      let entries : map loose_content (map without_decisions is.entries) ≡ pairs g has bs = ap (map loose_content) (is.of_file ∙ loose_is) ∙ loose_pairs g has lines (blocks lines) in
      let content_is : map entry_content file.entries ≡ contents g bs = ap (map entry_content) spells.entries ∙ content_entries g lines (blocks lines) in
      let kept = all_filter HasNoLineFeed is_kept_text lines (lines_end bytes lines spells.lines) in
      let are = all_runs blank_text (λ line. HasNoLineFeed line × (is_kept_text line ≡ true)) (filter is_kept_text lines) kept in
      let some = subst (AllByRecursion (λ (run : List Text). has_items run ≡ true)) (sym (texts_of_blocks lines)) (runs_some _ are) in
      let zip = subst (λ (l : List (List (ℕ × List ℕ) × Text)). AllZip (ReadsAs expected g a t) is.entries l) (sym content_is) (blocks_read is.entries bs entries (right_from g lines (blocks lines) spells.no_faults) some) in
      let xs = sentences_of file in
      all_stay expected g a t loose text is (map entry_content file.entries) zip (with_states t xs sound.each) (sym (content_sentences-entries file.entries) ∙ with_states_same t xs sound.each) (with_states_fail t xs sound.each) (with_states_apart t xs sound.each sound.distinct)
      (λ s failing. let x = complete s failing in with_states_has t xs sound.each x.0 s x.1 x.2)
