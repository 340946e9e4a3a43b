-- Proves that rebasing a rebased text onto the same grammar keeps all its entries and drops nothing.
use Rattle.std.proofs.Common.{◌≡◌, ℕ, Bool, true, false, List, [], ◌∷◌, ◌++◌, map, drop, filter, flat_map, refl, sym, ◌∙◌, ap, subst, append-nil}
use Rattle.std.specs.Prelude.{is_none}
use Rattle.std.specs.List.{AllByRecursion, AllZip, Contains}
use Rattle.std.proofs.lemmas.List.{map-append}
use Rattle.std.proofs.lemmas.Grind.{flat_map-append}
use Rattle.mh_grammar.proofs.Lists.{first_same, recursion-append}
use Rattle.mh_grammar.specs.Edges.{IsRising}
use Rattle.mh_grammar.specs.declared.types.Grammar.{Grammar}
use Rattle.mh_grammar.specs.Plain.{plain_of}
use Rattle.mh_grammar.specs.Text.{Text}
use Rattle.mh_items_kernels.specs.KernelTypes.{Automaton}
use Rattle.mh_tables_core.specs.Table.{TableData}
use Rattle.mh_tables_core.specs.Facts.{Facts}
use Rattle.mh_tables_core.specs.Failing.{CatalogueRow, Failing, FailsFirst}
use Rattle.mh_msgfile.specs.Sentences.{has_items}
use Rattle.mh_msgfile.specs.LooseFiles.{LooseSpells}
use Rattle.mh_msgfile.specs.FileTexts.{HasReadableNames}
use Rattle.mh_msgfile.specs.declared.loose.LooseFile.{LooseFile}
use Rattle.mh_msgfile.proofs.PrintedAgain.{canonical, contents_of, AreGood, IsGood, found_in, content_at, read_back, good_back, some_mapped}
use Rattle.mh_msgfile.proofs.WrittenEntries.{WrittenEntry, written_content, line_text, loose_content, IsGoodEntry, canonical_content, entries_loose}
use Rattle.mh_report.specs.CatalogueTexts.{AreEntries, IsCatalogueText}
use Rattle.mh_update.specs.NoLineEnds.{HasNamesWithoutLineEnds}
use Rattle.mh_rebase.specs.Decisions.{DecidedLine, kept_line, AreDecided}
use Rattle.mh_rebase.specs.RebasedText.{DecidedEntry, without_decisions, lines_in, has_kept, is_new_row, kept_entries_text, message_if_lost, dropped_entry_text, dropped_entries_text, IsRebased}
use Rattle.mh_rebase.specs.ReadAgain.{HasNoCr}
use Rattle.mh_rebase.specs.EntryTexts.{AreCommented}
use Rattle.mh_rebase.proofs.AllAreKept.{IsKeep, texts_in, all_keep, no_drops, keep_contents, some_keep}
use Rattle.mh_rebase.proofs.AreCommented.{commented_once, commented_append, entries_are, rows_are}
use Rattle.mh_rebase.proofs.IsReadAgain.{content_sentences, contents_failing, text_written}
use Rattle.mh_rebase.proofs.StatesOfSentences.{FailingSentence, OtherState, content, FailsThere, failing_of_lines, has_line, HasSentenceIn, all_failing, all_fail, all_apart, all_found}
use Rattle.mh_rebase.proofs.IsWritten.{Content, kept_contents, entry_content_if, entry_kept, entries_kept, row_content, decided_split}

pub texts_are : (js : List DecidedLine) → map line_text (map (λ (j : DecidedLine). j.line) js) ≡ texts_in js
texts_are [] = refl
texts_are (j ∷ js) = ap (λ (l : List Text). j.line.text ∷ l) (texts_are js)

pub items_of : (js : List DecidedLine) → has_items (texts_in js) ≡ true → has_items js ≡ true
items_of [] some = some
items_of (j ∷ js) some = refl

-- ---- A file without entries is rebased to the list of all errors.

no_entries : (es : List DecidedEntry) → map without_decisions es ≡ [] → es ≡ []
no_entries [] is = refl
no_entries (e ∷ es) is = absurd (cc)

filter_all : (q : CatalogueRow → Bool) → ((row : CatalogueRow) → q row ≡ true) → (rows : List CatalogueRow) → filter q rows ≡ rows
filter_all q all [] = refl
filter_all q all (row ∷ rows) = rw (all row) (ap (λ (l : List CatalogueRow). row ∷ l) (filter_all q all rows))

pub filter_none : (q : CatalogueRow → Bool) (rows : List CatalogueRow) → AllByRecursion (λ (row : CatalogueRow). q row ≡ false) rows → filter q rows ≡ []
filter_none q [] all = refl
filter_none q (row ∷ rows) all = rw (all.0) (filter_none q rows all.1)

module _ (expected : Bool) (g : Grammar) (a : Automaton) (t : TableData) where
  pub empty_is_list : (file : LooseFile) (text : Text) → file.entries ≡ [] → IsRebased expected g a t file text → IsCatalogueText expected g a t text
  empty_is_list file text empty is =
      let none : is.entries ≡ [] = no_entries is.entries (is.of_file ∙ empty) in
      let rows : filter (is_new_row (lines_in is.entries)) is.rows ≡ is.rows = ap (λ (es : List DecidedEntry). filter (is_new_row (lines_in es)) is.rows) none ∙ filter_all (is_new_row []) (λ row. refl) is.rows in
      let new : text ≡ is.new = is.is ∙ ap (λ (es : List DecidedEntry). (kept_entries_text g es ++ is.new) ++ dropped_entries_text es) none ∙ append-nil is.new in record {
        rows = is.rows;
        catalogue = is.catalogue;
        entries = subst (λ (l : Text). AreEntries expected g a t is.rows l) (sym new) (subst (λ (l : List CatalogueRow). AreEntries expected g a t l is.new) rows is.are_new);
      }

  -- ---- A file whose sentences are all kept.

  -- The lines and the message of the entry read as this content.
  pub record ReadsAs (e : DecidedEntry) (c : Content) : Type 0 where
    pub some : has_items e.sentences ≡ true
    pub good : AreGood g (texts_in e.sentences)
    pub contents : contents_of g (texts_in e.sentences) ≡ c.0
    pub message : e.message ≡ c.1

  pub entries_same : (before : List DecidedLine) (es : List DecidedEntry) (cs : List Content) → AllZip ReadsAs es cs → AreDecided expected g a t before (lines_in es) → AllByRecursion IsKeep (lines_in es) → (entries_kept es ≡ cs) × (dropped_entries_text es ≡ [])
  entries_same before [] [] zip decided keep = (refl, refl)
  entries_same before [] (c ∷ cs) zip decided keep = absurd zip
  entries_same before (e ∷ es) [] zip decided keep = absurd zip
  entries_same before (e ∷ es) (c ∷ cs) zip decided keep =
      let parts = decided_split expected g a t before e.sentences (lines_in es) decided in
      let keeps = keep_split e.sentences (lines_in es) keep in
      let some = some_keep expected g a t e.sentences keeps.0 zip.0.some in
      let contents : kept_contents e.sentences ≡ c.0 = keep_contents expected g a t before e.sentences parts.0 keeps.0 ∙ zip.0.contents in
      let later = entries_same (before ++ e.sentences) es cs zip.1 parts.1 keeps.1 in
      let message = zip.0.message in
      let one : entry_kept e ≡ c ∷ [] = ap (λ (b : Bool). entry_content_if b e.sentences e.message) some ∙ (λ i. (contents i, message i) ∷ []) in
      let none : dropped_entry_text e ≡ [] = ap (λ (l : Text). l ++ message_if_lost (has_kept e.sentences) e.message) (no_drops expected g a t e.sentences keeps.0) ∙ ap (λ (b : Bool). message_if_lost b e.message) some in (
        ap (λ (l : List Content). l ++ entries_kept es) one ∙ ap (λ (l : List Content). c ∷ l) later.0,
        ap (λ (l : Text). l ++ dropped_entries_text es) none ∙ later.1,
      )
    where
      keep_split : (js ks : List DecidedLine) → AllByRecursion IsKeep (js ++ ks) → AllByRecursion IsKeep js × AllByRecursion IsKeep ks
      keep_split [] ks all = (tt, all)
      keep_split (j ∷ js) ks all = let later = keep_split js ks all.1 in ((all.0, later.0), later.1)

  texts_split : (js ks : List DecidedLine) → texts_in (js ++ ks) ≡ texts_in js ++ texts_in ks
  texts_split js ks = map-append (λ (j : DecidedLine). j.line.text) js ks

  contents_append : (xs ys : List Text) → contents_of g (xs ++ ys) ≡ contents_of g xs ++ contents_of g ys
  contents_append xs ys = flat_map-append (λ (line : Text). content_at g (found_in g line)) xs ys

  entries_good : (es : List DecidedEntry) (cs : List Content) → AllZip ReadsAs es cs → AreGood g (texts_in (lines_in es)) × (contents_of g (texts_in (lines_in es)) ≡ flat_map content_sentences cs)
  entries_good [] [] zip = (tt, refl)
  entries_good [] (c ∷ cs) zip = absurd zip
  entries_good (e ∷ es) [] zip = absurd zip
  entries_good (e ∷ es) (c ∷ cs) zip =
      let later = entries_good es cs zip.1 in
      let split = sym (texts_split e.sentences (lines_in es)) in (
        subst (AreGood g) split (recursion-append (λ (line : Text). IsGood g (found_in g line)) (texts_in e.sentences) (texts_in (lines_in es)) zip.0.good later.0),
        ap (contents_of g) (sym split) ∙ contents_append (texts_in e.sentences) (texts_in (lines_in es)) ∙ ap (λ (l : List (ℕ × List ℕ)). l ++ contents_of g (texts_in (lines_in es))) zip.0.contents ∙ ap (λ (l : List (ℕ × List ℕ)). c.0 ++ l) later.1,
      )

  -- No row is new if each state has a kept sentence.
  none_new : (js : List DecidedLine) (zs : List FailingSentence) → failing_of_lines js ≡ zs → ((s : ℕ) → Failing t s → HasSentenceIn zs s) → (rows : List CatalogueRow) → AllByRecursion (λ (row : CatalogueRow). FailsFirst t row.start row.sentence row.state) rows → AllByRecursion (λ (row : CatalogueRow). is_new_row js row ≡ false) rows
  none_new js zs placed found [] each = tt
  none_new js zs placed found (row ∷ rows) each =
      let z = found row.state (row.start, row.sentence, each.0.fails) in
      let line = has_line js z.0 (subst (λ (l : List FailingSentence). Contains l z.0) (sym placed) z.1) in
      (ap is_none (ap (kept_line js) (sym z.2) ∙ line.1), none_new js zs placed found rows each.1)

  -- A file is kept whole if it reads as sentences that all fail, no two in one state and one in each failing state.
  pub all_stay : (file : LooseFile) (text : Text) (is : IsRebased expected g a t file text) (cs : List Content) → AllZip ReadsAs is.entries cs → (zs : List FailingSentence) → flat_map content_sentences cs ≡ map content zs → AllByRecursion (FailsThere expected g a t) zs → IsRising OtherState zs
      → ((s : ℕ) → Failing t s → HasSentenceIn zs s) → AreCommented expected g a t cs text
  all_stay file text is cs zip zs same fail rising found =
      let js = lines_in is.entries in
      let good = entries_good is.entries cs zip in
      let keep = all_keep expected g a t [] js is.decided zs good.0 (good.1 ∙ same) fail rising in
      let kept = entries_same [] is.entries cs zip is.decided keep.0 in
      let rows : filter (is_new_row js) is.rows ≡ [] = filter_none (is_new_row js) is.rows (none_new js zs keep.1 found is.rows is.catalogue.each) in
      let new : is.new ≡ [] = subst (λ (l : List CatalogueRow). AreEntries expected g a t l is.new) rows is.are_new in
      let there : text ≡ kept_entries_text g is.entries = is.is ∙ ap (λ (l : Text). (kept_entries_text g is.entries ++ l) ++ dropped_entries_text is.entries) new ∙ ap (λ (l : Text). (kept_entries_text g is.entries ++ []) ++ l) kept.1
      ∙ append-nil (kept_entries_text g is.entries ++ []) ∙ append-nil (kept_entries_text g is.entries) in
      subst (λ (l : Text). AreCommented expected g a t cs l) (sym there) (subst (λ (l : List Content). AreCommented expected g a t l (kept_entries_text g is.entries)) kept.0 (entries_are expected g a t [] is.entries is.decided))

  -- ---- A rebased text.

  module _ (facts : Facts t) (same : t.grammar ≡ plain_of g) (has : HasReadableNames g) (names : HasNamesWithoutLineEnds g) where
    canonical_reads : (es : List DecidedEntry) (ws : List WrittenEntry) → map loose_content (map without_decisions es) ≡ map (canonical_content g has) ws → AllByRecursion (IsGoodEntry g has) ws → AllZip ReadsAs es (map written_content ws)
    canonical_reads [] [] is good = tt
    canonical_reads [] (w ∷ ws) is good = absurd (cc)
    canonical_reads (e ∷ es) [] is good = absurd (cc)
    canonical_reads (e ∷ es) (w ∷ ws) is good =
        let one : loose_content (without_decisions e) ≡ canonical_content g has w = first_same _ _ _ _ is in
        let texts : texts_in e.sentences ≡ map (canonical g) w.sentences = sym (texts_are e.sentences) ∙ ap (λ (p : List Text × Text). p.0) one in (
          record {
            some = items_of e.sentences (ap has_items texts ∙ some_mapped g w.sentences good.0.some);
            good = subst (AreGood g) (sym texts) (good_back g has w.sentences good.0.known);
            contents = ap (contents_of g) texts ∙ read_back g has w.sentences good.0.known;
            message = ap (λ (p : List Text × Text). p.1) one;
          },
          canonical_reads es ws (ap (drop 1) is) good.1,
        )

    pub repeated : (bytes : Text) (file : LooseFile) (text : Text) → LooseSpells bytes file → HasNoCr file → (is : IsRebased expected g a t file text)
        → (loose : LooseFile) × LooseSpells text loose × ((next : Text) → IsRebased expected g a t loose next → next ≡ kept_entries_text g is.entries ++ is.new)
    repeated bytes file text spells free is =
        let w = text_written expected g a t facts same has names bytes file spells free text is in
        let read = entries_loose g has w.piece.lines w.entries w.good w.piece.whole w.piece.kept in
        let rows = filter (is_new_row (lines_in is.entries)) is.rows in
        let cs = entries_kept is.entries ++ map row_content rows in (
          read.0,
          subst (λ (b : Text). LooseSpells b read.0) (sym w.piece.is) read.1,
          λ next rebased.
              let zip = subst (λ (l : List Content). AllZip ReadsAs rebased.entries l) w.content (canonical_reads rebased.entries w.entries (ap (map loose_content) rebased.of_file ∙ read.2) w.good) in
              let stays = all_stay read.0 next rebased cs zip (all_failing expected g a t (lines_in is.entries) is.rows is.decided is.catalogue) (contents_failing is.entries rows) (all_fail expected g a t (lines_in is.entries) is.rows is.decided is.catalogue)
              (all_apart expected g a t (lines_in is.entries) is.rows is.decided is.catalogue) (all_found expected g a t (lines_in is.entries) is.rows is.decided is.catalogue) in
              let were : AreCommented expected g a t cs (kept_entries_text g is.entries ++ is.new) =
              commented_append expected g a t (entries_kept is.entries) (map row_content rows) (kept_entries_text g is.entries) is.new (entries_are expected g a t [] is.entries is.decided) (rows_are expected g a t rows is.new is.are_new) in
              commented_once expected g a t cs next (kept_entries_text g is.entries ++ is.new) stays were,
        )
