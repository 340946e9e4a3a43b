-- The texts that the program writes for a grammar of files are read again, since its names are those of files. The list
-- of errors is the rebased text of a messages file without entries.
use Rattle.std.proofs.Common.{◌≡◌, Bool, List, [], ◌∷◌, Option, filter, refl, sym, ap, subst}
use Rattle.std.proofs.lemmas.List.{append-nil}
use Rattle.mh_grammar.proofs.Lists.{contains_none}
use Rattle.mh_grammar.specs.Plain.{plain_of}
use Rattle.mh_grammar.specs.Text.{Text}
use Rattle.mh_grammar.specs.declared.types.Grammar.{Grammar}
use Rattle.mh_items_kernels.specs.KernelTypes.{Automaton}
use Rattle.mh_tables_core.specs.Facts.{Facts}
use Rattle.mh_tables_core.specs.Failing.{CatalogueRow}
use Rattle.mh_tables_core.specs.Table.{TableData}
use Rattle.mh_tabfile.proofs.WrittenIsFile.{is_written}
use Rattle.mh_msgfile.specs.Lines.{NoLine}
use Rattle.mh_msgfile.specs.LooseFiles.{LooseSpells}
use Rattle.mh_msgfile.specs.declared.loose.LooseFile.{LooseFile}
use Rattle.mh_msgfile.proofs.CanonicalLine.{canonical_line}
use Rattle.mh_msgfile.proofs.IsLineOf.{spaced_line}
use Rattle.mh_msgfile.proofs.PrintedAgain.{printed_again}
use Rattle.mh_report.specs.CatalogueTexts.{AreEntries, IsCatalogueText}
use Rattle.mh_update.proofs.UpdatedAgain.{updated_again}
use Rattle.mh_rebase.specs.RebasedText.{is_new_row, IsRebased}
use Rattle.mh_rebase.specs.ReadAgain.{HasNoCr}
use Rattle.mh_rebase.proofs.IsReadAgain.{reread}
use Rattle.mh_rebase.proofs.RebasedAgain.{repeated}
use Rattle.mh_outside.specs.Shelf.{Files}
use Rattle.mh_top_drive.specs.StageResults.{Go}
use Rattle.mh_top_load.specs.GrammarNames.{HasFileNames}
use Rattle.mh_top_drive.specs.Shapes.{Prepared}
use Rattle.mh_top_claims.specs.Preparing.{IsPrepared}
use Rattle.mh_top_claims.specs.RoundTrips.{HasRoundTrips, IsCompleteMessagesFile}
use Rattle.mh_top_claims.proofs.HasFileNames.{without_line_ends, word_names}
use Rattle.mh_top_claims.proofs.PreparedSource.{made}
use Rattle.mh_top_claims.proofs.VerdictClaims.{prepared_runs}

-- ---- The list of errors as a rebased file.

abbrev no_entries : LooseFile
no_entries = record { entries = [] }

empty_spells : LooseSpells [] no_entries
empty_spells = record { lines = []; are = NoLine; paired = refl; entries = refl }

empty_has_no_cr : HasNoCr no_entries
empty_has_no_cr entry among front rest e = contains_none entry among

all_new : (rows : List CatalogueRow) → filter (is_new_row []) rows ≡ rows
all_new [] = refl
all_new (row ∷ rows) = ap (λ (l : List CatalogueRow). row ∷ l) (all_new rows)

module _ (expected : Bool) (g : Grammar) (a : Automaton) (t : TableData) where
  list_is_rebased : (text : Text) → IsCatalogueText expected g a t text → IsRebased expected g a t no_entries text
  list_is_rebased text is = record {
    entries = [];
    of_file = refl;
    decided = tt;
    rows = is.rows;
    catalogue = is.catalogue;
    new = text;
    are_new = subst (λ (rows : List CatalogueRow). AreEntries expected g a t rows text) (sym (all_new is.rows)) is.entries;
    is = sym (append-nil text);
  }

  list_is_complete : Facts t → t.grammar ≡ plain_of g → HasFileNames g → (text : Text) → IsCatalogueText expected g a t text → IsCompleteMessagesFile g t text
  list_is_complete facts same names text is =
      let read = reread expected g a t facts same names.readable (without_line_ends g names) [] no_entries empty_spells empty_has_no_cr text (list_is_rebased text is) in
      record { file = read.again; spells = read.spells; sound = read.sound; complete = read.complete }

-- ---- All claims on round trips are true of a prepared table.

module _ (words : List Text) (files : Option Files) (p : Prepared) (is : IsPrepared words files (Go p)) where
  pub has_round_trips : HasRoundTrips p
  has_round_trips =
      let g = p.grammar in
      let a = p.tabled.automaton in
      let t = p.tabled.halting in
      let names = (made words files p is).ready.names in
      let runs = prepared_runs words files p is in
      let facts = runs.halts.facts in
      let table = runs.consistent.table in
      record {
        names = names;
        sentence = canonical_line g names.readable;
        spaced = spaced_line g names.readable;
        printed = printed_again g names.readable;
        list = λ expected. list_is_complete expected g a t facts table.grammar names;
        updated = λ expected. updated_again expected g a t facts (without_line_ends g names);
        rebased = λ expected. repeated expected g a t facts table.grammar names.readable (without_line_ends g names);
        table = is_written g a p.tabled.mode t (word_names g names) runs.consistent.range runs.consistent.automaton table facts;
      }
