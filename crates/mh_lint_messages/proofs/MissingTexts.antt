-- Lemmas for the loop that writes the states without an entry, and the proof that the parts make the whole text.
use Rattle.std.proofs.Common.{◌≡◌, ◌<◌, ◌+◌, ℕ, true, false, List, [], ◌∷◌, ◌++◌, length, filter, take, get_or, Option, None, Some, sym, ◌∙◌, ap, ap₂, append_assoc, append-nil}
use Rattle.std.specs.Prelude.{is_none}
use Rattle.std.proofs.lemmas.List.{map-append}
use Rattle.std.proofs.lemmas.Grind.{flat_map-append}
use Rattle.mh_grammar.proofs.Lists.{take_step}
use Rattle.mh_grammar.specs.declared.types.Grammar.{Grammar}
use Rattle.mh_grammar.specs.Text.{Text}
use Rattle.mh_tables_core.specs.Table.{TableData}
use Rattle.mh_tables_core.specs.Failing.{CatalogueRow, Catalogue}
use Rattle.mh_catalogue.specs.Rows.{row_of, rows_of}
use Rattle.mh_catalogue.specs.declared.rows.Row.{Row}
use Rattle.mh_msgfile.proofs.PrintedAgain.{filter_on}
use Rattle.mh_msgfile.specs.declared.blocks.LooseBlocks.{LooseBlocks}
use Rattle.mh_rebase.specs.RebasedText.{lines_in, is_new_row}
use Rattle.mh_rebase.specs.code.Reasons.{kept_line_in}
use Rattle.mh_rebase.specs.code.Parts.{AreKeptLines}
use Rattle.mh_rebase.specs.code.Rows.{has_no_kept_line}
use Rattle.mh_rebase.proofs.WritesRows.{filter_append, filter_same}
use Rattle.mh_rebase.specs.ErrorLines.{entries_text, missing_text, missing_texts, unpaired_text, IsErrorText}
use Rattle.mh_lint_messages.specs.code.Findings.{DecidesEntries}
use Rattle.mh_lint_messages.specs.declared.lines.Findings.{Findings}

-- The text on the rows in whose states no sentence of a kept line fails.
abbrev pub missing_row_texts : Grammar → List (Option ℕ) → List Row → Text
missing_row_texts g kept rows = missing_texts g (filter (has_no_kept_line kept) (rows_of rows))

module _ (g : Grammar) (kept : List (Option ℕ)) where
  -- A row without a kept line is written, and a row with a kept line adds no text.
  pub row_written : (row : Row) → kept_line_in kept row.state ≡ None → missing_text g (row_of row) ≡ missing_row_texts g kept (row ∷ [])
  row_written row none = sym (append-nil (missing_text g (row_of row))) ∙ ap (missing_texts g) (sym (filter_on (has_no_kept_line kept) (row_of row) [] true (ap is_none none)))

  pub row_kept : (row : Row) (line : ℕ) → kept_line_in kept row.state ≡ Some line → [] ≡ missing_row_texts g kept (row ∷ [])
  row_kept row line some = ap (missing_texts g) (sym (filter_on (has_no_kept_line kept) (row_of row) [] false (ap is_none some)))

  pub rows_more : (rows : List Row) (i : ℕ) (row : Row) (old middle new : Text) → i < length rows → row ≡ get_or rows i row → middle ≡ old ++ missing_row_texts g kept (take i rows) → new ≡ middle ++ missing_row_texts g kept (row ∷ [])
      → new ≡ old ++ missing_row_texts g kept (take (i + 1) rows)
  rows_more rows i row old middle new lt here first next =
      let q = has_no_kept_line kept in
      let split : filter q (rows_of (take i rows)) ++ filter q (rows_of (row ∷ [])) ≡ filter q (rows_of (take (i + 1) rows)) =
      sym (filter_append q (rows_of (take i rows)) (rows_of (row ∷ []))) ∙ ap (filter q) (sym (map-append row_of (take i rows) (row ∷ [])) ∙ ap rows_of (sym (take_step rows i row lt here))) in
      next ∙ ap (λ (l : Text). l ++ missing_row_texts g kept (row ∷ [])) first ∙ append_assoc old (missing_row_texts g kept (take i rows)) (missing_row_texts g kept (row ∷ []))
      ∙ ap (λ (l : Text). old ++ l) (sym (flat_map-append (missing_text g) (filter q (rows_of (take i rows))) (filter q (rows_of (row ∷ [])))) ∙ ap (missing_texts g) split)

-- The lines on the entries, on the unpaired block and on the missing rows are together the text of the errors of a
-- file.
pub error_text : (g : Grammar) (t : TableData) (name : Text) (blocks : LooseBlocks) (rows : List Row) (old new : Findings) (first text : Text) → AreKeptLines [] old.kept_lines.items → old.text.items ≡ [] → DecidesEntries g t name blocks.file.entries old new → Catalogue t (rows_of rows)
    → first ≡ new.text.items ++ unpaired_text name blocks.unpaired → text ≡ first ++ missing_row_texts g new.kept_lines.items rows → IsErrorText g t name blocks text
error_text g t name blocks rows old new first text none start added catalogue unpaired missing =
    let js = lines_in added.done in
    let decided = added.decided [] none in
    let begun : new.text.items ≡ entries_text name added.done = added.written ∙ ap (λ (l : Text). l ++ entries_text name added.done) start in record {
      entries = added.done;
      of_file = added.of_entries;
      decided = decided.0;
      rows = rows_of rows;
      catalogue = catalogue;
      is = missing ∙ ap₂ (λ (l m : Text). l ++ m) (unpaired ∙ ap (λ (l : Text). l ++ unpaired_text name blocks.unpaired) begun)
          (ap (missing_texts g) (filter_same (has_no_kept_line new.kept_lines.items) (is_new_row js) (λ (row : CatalogueRow). ap is_none (decided.1 row.state)) (rows_of rows)));
    }
