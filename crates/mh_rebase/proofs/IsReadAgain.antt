-- Proves that a rebased file is read as a sound and complete file in which the kept sentences have their old messages.
use Rattle.std.proofs.Common.{◌≡◌, ℕ, Bool, true, false, ◌||◌, List, [], ◌∷◌, ◌++◌, map, filter, flat_map, refl, sym, ◌∙◌, ap, subst, append-nil, inl, inr}
use Rattle.std.specs.List.{AllByRecursion, Contains}
use Rattle.std.proofs.lemmas.List.{map-append}
use Rattle.std.proofs.lemmas.Grind.{flat_map-append}
use Rattle.std.proofs.lemmas.List.Elements.{Contains-append_left, Contains-append_right}
use Rattle.mh_grammar.proofs.Lists.{contains_cases, contains_here, contains_there, contains_none, contains_flat_map, map_contains}
use Rattle.mh_grammar.specs.declared.types.Grammar.{Grammar}
use Rattle.mh_grammar.specs.declared.types.Sentence.{Sentence}
use Rattle.mh_grammar.specs.Plain.{plain_of}
use Rattle.mh_grammar.specs.Text.{Text}
use Rattle.mh_items_kernels.specs.KernelTypes.{Automaton}
use Rattle.mh_tables_core.specs.Table.{TableData}
use Rattle.mh_tables_core.specs.Facts.{Facts}
use Rattle.mh_tables_core.specs.Failing.{CatalogueRow, FailsFirst}
use Rattle.mh_msgfile.specs.Messages.{MsgSpells}
use Rattle.mh_msgfile.specs.LooseFiles.{LooseSpells}
use Rattle.mh_msgfile.specs.FileTexts.{HasReadableNames, content_of, entry_content}
use Rattle.mh_msgfile.specs.declared.loose.LooseEntry.{LooseEntry}
use Rattle.mh_msgfile.specs.declared.loose.LooseFile.{LooseFile}
use Rattle.mh_msgfile.specs.declared.messages.Entry.{Entry}
use Rattle.mh_msgfile.specs.declared.messages.MsgFile.{MsgFile}
use Rattle.mh_msgfile.proofs.PrintedAgain.{HasNoCrLf}
use Rattle.mh_msgfile.proofs.WrittenEntries.{IsMessageText, IsLooseBlock, loose_blocks, entries_spelled}
use Rattle.mh_check.specs.Checks.{sentences_of}
use Rattle.mh_update.specs.NoLineEnds.{HasNamesWithoutLineEnds}
use Rattle.mh_rebase.specs.Decisions.{Decision, Keep, Drop, DecidedLine, is_keep}
use Rattle.mh_rebase.specs.RebasedText.{DecidedEntry, without_decisions, lines_in, has_kept, is_new_row, kept_entries_text, dropped_entries_text, IsRebased}
use Rattle.mh_rebase.specs.ReadAgain.{HasNoCr, HasMessage, IsReadAgain}
use Rattle.mh_rebase.proofs.StatesOfSentences.{content, failing_of_lines, failing_of_row, failing_contents, all_filtered, all_failing, all_fail, all_apart, all_found, sound_by, complete_by}
use Rattle.mh_rebase.proofs.IsWritten.{Content, kept_content, kept_contents, entry_content_if, entry_kept, entries_kept, row_content, no_contents, HasFreeText, IsWritten, all_written, dropped_piece, with_dropped}

-- The start and the tokens of each sentence of an entry.
abbrev pub content_sentences : Content → List (ℕ × List ℕ)
content_sentences c = c.0

-- ---- The sentences of the kept and new entries are the kept sentences and those of the catalogue.

pub content_sentences-entries : (es : List Entry) → map content_of (flat_map (λ (e : Entry). e.sentences) es) ≡ flat_map content_sentences (map entry_content es)
content_sentences-entries [] = refl
content_sentences-entries (e ∷ es) =
    map-append content_of e.sentences (flat_map (λ (f : Entry). f.sentences) es) ∙ ap (λ (l : List (ℕ × List ℕ)). map content_of e.sentences ++ l) (content_sentences-entries es)

entry_on : (js : List DecidedLine) (message : Text) (b : Bool) → has_kept js ≡ b → flat_map content_sentences (entry_content_if b js message) ≡ kept_contents js
entry_on js message true some = append-nil (kept_contents js)
entry_on js message false none = sym (no_contents js none)

content_sentences-kept : (es : List DecidedEntry) → flat_map content_sentences (entries_kept es) ≡ kept_contents (lines_in es)
content_sentences-kept [] = refl
content_sentences-kept (e ∷ es) =
    flat_map-append content_sentences (entry_kept e) (entries_kept es) ∙ ap (λ (l : List (ℕ × List ℕ)). l ++ flat_map content_sentences (entries_kept es)) (entry_on e.sentences e.message (has_kept e.sentences) refl)
    ∙ ap (λ (l : List (ℕ × List ℕ)). kept_contents e.sentences ++ l) (content_sentences-kept es) ∙ sym (flat_map-append (λ (j : DecidedLine). kept_content j.decision) e.sentences (lines_in es))

content_sentences-rows : (rows : List CatalogueRow) → flat_map content_sentences (map row_content rows) ≡ map content (map failing_of_row rows)
content_sentences-rows [] = refl
content_sentences-rows (row ∷ rows) = ap (λ (l : List (ℕ × List ℕ)). (row.start, row.sentence) ∷ l) (content_sentences-rows rows)

pub contents_failing : (es : List DecidedEntry) (rows : List CatalogueRow) → flat_map content_sentences (entries_kept es ++ map row_content rows) ≡ map content (failing_of_lines (lines_in es) ++ map failing_of_row rows)
contents_failing es rows =
    flat_map-append content_sentences (entries_kept es) (map row_content rows) ∙ ap (λ (l : List (ℕ × List ℕ)). l ++ flat_map content_sentences (map row_content rows)) (content_sentences-kept es ∙ sym (failing_contents (lines_in es)))
    ∙ ap (λ (l : List (ℕ × List ℕ)). map content (failing_of_lines (lines_in es)) ++ l) (content_sentences-rows rows) ∙ sym (map-append content (failing_of_lines (lines_in es)) (map failing_of_row rows))

-- ---- If a sentence of an entry is kept, the entry is kept with this sentence.

some_by : (j : DecidedLine) (js : List DecidedLine) (x : Sentence) (s : ℕ) (lines : Text) → j.decision ≡ Keep x s lines → (has_kept (j ∷ js) ≡ true) × Contains (kept_contents (j ∷ js)) (x.start, x.tokens)
some_by j js x s lines is =
    let keep : is_keep j.decision ≡ true = ap is_keep is in
    let here : kept_content j.decision ≡ (x.start, x.tokens) ∷ [] = ap kept_content is in
    (rw keep refl, subst (λ (l : List (ℕ × List ℕ)). Contains (l ++ kept_contents js) (x.start, x.tokens)) (sym here) (contains_here (x.start, x.tokens) (kept_contents js)))

some_on : (d : Decision) (js : List DecidedLine) (c : ℕ × List ℕ) → (has_kept js ≡ true) × Contains (kept_contents js) c → ((is_keep d || has_kept js) ≡ true) × Contains (kept_content d ++ kept_contents js) c
some_on (Keep y r lines) js c found = (refl, Contains-append_right ((y.start, y.tokens) ∷ []) (kept_contents js) c found.1)
some_on (Drop reason) js c found = found

some_in : (js : List DecidedLine) (j : DecidedLine) (x : Sentence) (s : ℕ) (lines : Text) → Contains js j → j.decision ≡ Keep x s lines → (has_kept js ≡ true) × Contains (kept_contents js) (x.start, x.tokens)
some_in [] j x s lines c is = absurd (contains_none j c)
some_in (k ∷ js) j x s lines c is = elim (contains_cases k js j c) [
  | inl same ↦ some_by k js x s lines (ap (λ (i : DecidedLine). i.decision) same ∙ is)
  | inr more ↦ some_on k.decision js (x.start, x.tokens) (some_in js j x s lines more is)
]

abbrev HasContent : List Content → Sentence → Text → Type 0
HasContent cs x message = (c : Content) × Contains cs c × Contains c.0 (x.start, x.tokens) × (c.1 ≡ message)

kept_in : (es : List DecidedEntry) (e : DecidedEntry) (j : DecidedLine) (x : Sentence) (s : ℕ) (lines : Text) → Contains es e → Contains e.sentences j → j.decision ≡ Keep x s lines → HasContent (entries_kept es) x e.message
kept_in es e j x s lines of_file of_entry is =
    let some = some_in e.sentences j x s lines of_entry is in
    let one : Contains (entry_kept e) (kept_contents e.sentences, e.message) =
    subst (λ (b : Bool). Contains (entry_content_if b e.sentences e.message) (kept_contents e.sentences, e.message)) (sym some.0) (contains_here (kept_contents e.sentences, e.message) []) in
    ((kept_contents e.sentences, e.message), contains_flat_map entry_kept es e (kept_contents e.sentences, e.message) of_file one, some.1, refl)

-- If some content has the sentence and the message, an entry of the file has them.
message_in : (again : MsgFile) (cs : List Content) (x : Sentence) (message : Text) → map entry_content again.entries ≡ cs → HasContent cs x message → HasMessage again x message
message_in again cs x message same (c, among, has, is) =
    let of_entry = map_contains entry_content again.entries c (subst (λ (l : List Content). Contains l c) (sym same) among) in
    let of_sentence = map_contains content_of of_entry.0.sentences (x.start, x.tokens) (subst (λ (d : Content). Contains d.0 (x.start, x.tokens)) (sym of_entry.2) has) in record {
      entry = of_entry.0;
      of_file = of_entry.1;
      sentence = of_sentence.0;
      of_entry = of_sentence.1;
      same = of_sentence.2;
      message_is = ap (λ (d : Content). d.1) of_entry.2 ∙ is;
    }

module _ (expected : Bool) (g : Grammar) (a : Automaton) (t : TableData) (facts : Facts t) (same : t.grammar ≡ plain_of g) (has : HasReadableNames g) (names : HasNamesWithoutLineEnds g) where
  -- The messages of the old file can be read again.
  texts_free : (es : List DecidedEntry) (fs : List LooseEntry) → map without_decisions es ≡ fs → AllByRecursion (IsLooseBlock g has) fs → ((e : LooseEntry) → Contains fs e → HasNoCrLf g has e.message) → AllByRecursion (HasFreeText expected g a t facts same has names) es
  texts_free [] fs is all free = tt
  texts_free (e ∷ es) [] is all free = absurd (cc)
  texts_free (e ∷ es) (f ∷ fs) is all free =
      let one : without_decisions e ≡ f = cc in
      let text : e.message ≡ f.message = ap (λ (k : LooseEntry). k.message) one in (
        subst (λ (m : Text). IsMessageText g has m × HasNoCrLf g has m) (sym text) (all.0.message, free f (contains_here f fs)),
        texts_free es fs (cc) all.1 (λ k c. free k (contains_there f fs k c)),
      )

  module _ (bytes : Text) (file : LooseFile) (spells : LooseSpells bytes file) (free : HasNoCr file) (text : Text) (is : IsRebased expected g a t file text) where
    abbrev new_rows : List CatalogueRow
    new_rows = filter (is_new_row (lines_in is.entries)) is.rows

    pub texts : AllByRecursion (HasFreeText expected g a t facts same has names) is.entries
    texts = texts_free is.entries file.entries is.of_file (loose_blocks g has bytes file spells) free

    -- The kept and the new entries are written.
    pub front_written : IsWritten expected g a t facts same has names (kept_entries_text g is.entries ++ is.new) (entries_kept is.entries ++ map row_content new_rows)
    front_written =
        all_written expected g a t facts same has names is.entries new_rows is.new is.decided texts
        (all_filtered (is_new_row (lines_in is.entries)) (λ (row : CatalogueRow). FailsFirst t row.start row.sentence row.state) is.rows is.catalogue.each) is.are_new

    pub text_written : IsWritten expected g a t facts same has names text (entries_kept is.entries ++ map row_content new_rows)
    text_written =
        subst (λ (l : Text). IsWritten expected g a t facts same has names l (entries_kept is.entries ++ map row_content new_rows)) (sym is.is)
        (with_dropped expected g a t facts same has names (kept_entries_text g is.entries ++ is.new) (dropped_entries_text is.entries) (entries_kept is.entries ++ map row_content new_rows) front_written
        (dropped_piece expected g a t facts same has names [] is.entries is.decided texts))

    pub reread : IsReadAgain expected g a t file text
    reread =
        let w = text_written in
        let read = entries_spelled g has w.piece.lines w.entries w.good w.piece.whole w.piece.kept in
        let again = read.0 in
        let contents : map entry_content again.entries ≡ entries_kept is.entries ++ map row_content new_rows = read.2 ∙ w.content in
        let js = lines_in is.entries in
        let zs : map content_of (sentences_of again) ≡ map content (all_failing expected g a t js is.rows is.decided is.catalogue) = content_sentences-entries again.entries ∙ ap (flat_map content_sentences) contents ∙ contents_failing is.entries new_rows in
        let fail = all_fail expected g a t js is.rows is.decided is.catalogue in record {
          rebased = is;
          again = again;
          spells = subst (λ (b : Text). MsgSpells g b again) (sym w.piece.is) read.1;
          sound = sound_by t (sentences_of again) (all_failing expected g a t js is.rows is.decided is.catalogue) zs fail (all_apart expected g a t js is.rows is.decided is.catalogue);
          complete = λ s failing. complete_by t (sentences_of again) (all_failing expected g a t js is.rows is.decided is.catalogue) zs fail s (all_found expected g a t js is.rows is.decided is.catalogue s failing);
          keeps = λ e j x s lines of_file of_entry keep.
              let found = kept_in is.entries e j x s lines of_file of_entry keep in
              message_in again (entries_kept is.entries ++ map row_content new_rows) x e.message contents (found.0, Contains-append_left (entries_kept is.entries) (map row_content new_rows) found.0 found.1, found.2, found.3);
        }
