-- Lemmas for the loop that writes the rows of a catalogue, and the proof that the parts make the rebased text.
use Rattle.std.proofs.Common.{◌≡◌, ◌<◌, ◌+◌, ℕ, zero, suc, Bool, true, false, List, [], ◌∷◌, ◌++◌, length, filter, take, get_or, replicate, Option, None, Some, refl, sym, ◌∙◌, ap, subst, arith, if◌then◌else◌, append_assoc, append-nil}
use Rattle.std.specs.Prelude.{slice_get, is_none}
use Rattle.std.specs.List.{AllByRecursion}
use Rattle.std.proofs.lemmas.List.{map-append}
use Rattle.mh_grammar.proofs.Lists.{take_step}
use Rattle.mh_grammar.specs.declared.types.Grammar.{Grammar}
use Rattle.mh_grammar.specs.Text.{Text}
use Rattle.mh_rebase.specs.code.Reasons.{kept_line_in}
use Rattle.mh_items_kernels.specs.KernelTypes.{Automaton}
use Rattle.mh_tables_core.specs.Table.{TableData}
use Rattle.mh_tables_core.specs.Failing.{CatalogueRow, Catalogue, FailsFirst}
use Rattle.mh_catalogue.specs.Rows.{AreShort, row_of, rows_of}
use Rattle.mh_catalogue.specs.declared.rows.Row.{Row}
use Rattle.mh_msgfile.specs.declared.loose.LooseFile.{LooseFile}
use Rattle.mh_msgfile.proofs.PrintedAgain.{filter_on}
use Rattle.mh_report.specs.Comments.{IsEntryText}
use Rattle.mh_report.specs.CatalogueTexts.{AreEntries}
use Rattle.mh_report.proofs.AreEntries.{entries_append}
use Rattle.mh_rebase.specs.RebasedText.{lines_in, is_new_row, kept_entries_text, dropped_entries_text, IsRebased}
use Rattle.mh_rebase.specs.code.Parts.{AreKeptLines, DecidesEntries}
use Rattle.mh_rebase.specs.code.Rows.{IsFitRow, has_no_kept_line, WritesRows}
use Rattle.mh_rebase.specs.declared.entries.Parts.{Parts}
use Rattle.mh_rebase.proofs.AreKeptLines.{inner}

filter_by : {A : Type 0} (q : A → Bool) (x : A) (xs ys : List A) (c : Bool) → q x ≡ c → filter q (xs ++ ys) ≡ filter q xs ++ filter q ys → filter q (x ∷ (xs ++ ys)) ≡ filter q (x ∷ xs) ++ filter q ys
filter_by q x xs ys true is later = rw is (ap (λ l. x ∷ l) later)
filter_by q x xs ys false is later = rw is later

pub filter_append : {A : Type 0} (q : A → Bool) (xs ys : List A) → filter q (xs ++ ys) ≡ filter q xs ++ filter q ys
filter_append q [] ys = refl
filter_append q (x ∷ xs) ys = filter_by q x xs ys (q x) refl (filter_append q xs ys)

pub filter_same : {A : Type 0} (q r : A → Bool) → ((x : A) → q x ≡ r x) → (xs : List A) → filter q xs ≡ filter r xs
filter_same q r same [] = refl
filter_same q r same (x ∷ xs) =
    filter_on q x xs (q x) refl ∙ ap (λ l. if q x then x ∷ l else l) (filter_same q r same xs) ∙ sym (filter_on r x xs (q x) (sym (same x)))

module _ (expected : Bool) (g : Grammar) (a : Automaton) (t : TableData) where
  -- ---- Writing one row after the other writes all rows.

  pub rows_none : (kept : List (Option ℕ)) (text : Text) → WritesRows expected g a t kept [] text text
  rows_none kept text = ([], refl, sym (append-nil text))

  pub rows_more : (kept : List (Option ℕ)) (rows : List Row) (i : ℕ) (row : Row) (old middle new : Text) → i < length rows → row ≡ get_or rows i row → WritesRows expected g a t kept (take i rows) old middle → WritesRows expected g a t kept (row ∷ []) middle new
      → WritesRows expected g a t kept (take (i + 1) rows) old new
  rows_more kept rows i row old middle new lt here (x, are, first) (y, are', next) =
      let q = has_no_kept_line kept in
      let split : filter q (rows_of (take i rows)) ++ filter q (rows_of (row ∷ [])) ≡ filter q (rows_of (take (i + 1) rows)) =
      sym (filter_append q (rows_of (take i rows)) (rows_of (row ∷ []))) ∙ ap (filter q) (sym (map-append row_of (take i rows) (row ∷ [])) ∙ ap rows_of (sym (take_step rows i row lt here))) in (
        x ++ y,
        subst (λ (l : List CatalogueRow). AreEntries expected g a t l (x ++ y)) split (entries_append expected g a t (filter q (rows_of (take i rows))) (filter q (rows_of (row ∷ []))) x y are are'),
        next ∙ ap (λ (l : Text). l ++ y) first ∙ append_assoc old x y,
      )

  -- A row without a kept line is written as an entry, and a row with a kept line adds no text.
  pub row_written : (kept : List (Option ℕ)) (row : Row) (none : Bool) → none ≡ is_none (kept_line_in kept row.state) → none ≡ true → (old entry new : Text) → IsEntryText expected g a t row.start row.sentence entry → new ≡ old ++ entry → WritesRows expected g a t kept (row ∷ []) old new
  row_written kept row none is out old entry new of_row written =
      let here : is_none (kept_line_in kept row.state) ≡ true = sym is ∙ out in (
        entry,
        subst (λ (l : List CatalogueRow). AreEntries expected g a t l entry) (sym (filter_on (has_no_kept_line kept) (row_of row) [] true here)) (entry, [], of_row, refl, sym (append-nil entry)),
        written,
      )

  pub row_kept : (kept : List (Option ℕ)) (row : Row) (none : Bool) → none ≡ is_none (kept_line_in kept row.state) → none ≡ false → (text : Text) → WritesRows expected g a t kept (row ∷ []) text text
  row_kept kept row none is out text =
      let here : is_none (kept_line_in kept row.state) ≡ false = sym is ∙ out in
      ([], subst (λ (l : List CatalogueRow). AreEntries expected g a t l []) (sym (filter_on (has_no_kept_line kept) (row_of row) [] false here)) refl, sym (append-nil text))

  -- The sentences of a catalogue fail.
  pub rows_fit : (rows : List Row) → AllByRecursion (λ (row : CatalogueRow). FailsFirst t row.start row.sentence row.state) (rows_of rows) → AreShort (rows_of rows) → AllByRecursion (IsFitRow t) rows
  rows_fit [] each short = tt
  rows_fit (row ∷ rows) each short = (record { fails = each.0.fails; few = omega (arith, short.0) }, rows_fit rows each.1 short.1)

  -- ---- The whole text.

  places_none : (n s : ℕ) → inner (slice_get (replicate n None) s) ≡ None
  places_none n s = none_at (slice_get (replicate n None) s) (λ o is. replicated n s o is)
    where
      replicated : (n s : ℕ) (o : Option ℕ) → slice_get (replicate n None) s ≡ Some o → o ≡ None
      replicated zero s o is = cc
      replicated (suc n) zero o is = cc
      replicated (suc n) (suc s) o is = replicated n s o is

      none_at : (o : Option (Option ℕ)) → ((p : Option ℕ) → o ≡ Some p → p ≡ None) → inner o ≡ None
      none_at None all = refl
      none_at (Some p) all = all p refl

  pub are_none : (n : ℕ) (kept_lines : List (Option ℕ)) → kept_lines ≡ replicate n None → AreKeptLines [] kept_lines
  are_none n kept_lines is = λ s. ap (λ (l : List (Option ℕ)). kept_line_in l s) is ∙ places_none n s

  pub rebased : (file : LooseFile) (rows : List Row) (old new : Parts) (text : Text) → DecidesEntries expected g a t file.entries old new → Catalogue t (rows_of rows) → AreKeptLines [] old.kept_lines.items → old.kept.items ≡ [] → old.dropped.items ≡ []
      → (written : Text) → WritesRows expected g a t new.kept_lines.items rows new.kept.items written → text ≡ written ++ new.dropped.items → IsRebased expected g a t file text
  rebased file rows old new text added catalogue none kept dropped written (entries, are, writes) is =
      let js = lines_in added.done in
      let kept_lines : AreKeptLines js new.kept_lines.items = (added.decided [] none).1 in
      let keeps : new.kept.items ≡ kept_entries_text g added.done = added.keeps ∙ ap (λ (l : Text). l ++ kept_entries_text g added.done) kept in
      let drops : new.dropped.items ≡ dropped_entries_text added.done = added.drops ∙ ap (λ (l : Text). l ++ dropped_entries_text added.done) dropped in record {
        entries = added.done;
        of_file = added.of_entries;
        decided = (added.decided [] none).0;
        rows = rows_of rows;
        catalogue = catalogue;
        new = entries;
        are_new = subst (λ (l : List CatalogueRow). AreEntries expected g a t l entries) (filter_same (has_no_kept_line new.kept_lines.items) (is_new_row js) (λ (row : CatalogueRow). ap is_none (kept_lines row.state)) (rows_of rows)) are;
        is = is ∙ ap (λ (l : Text). l ++ new.dropped.items) (writes ∙ ap (λ (l : Text). l ++ entries) keeps) ∙ ap (λ (l : Text). (kept_entries_text g added.done ++ entries) ++ l) drops;
      }
