-- Proves, as a double negation, that a messages file for another grammar has a rebased text.
use Rattle.std.proofs.Common.{◌≡◌, ◌∙◌, Bool, true, false, List, [], ◌∷◌, ◌++◌, map, refl, ap}
use Rattle.std.specs.List.{AllByRecursion}
use Rattle.std.specs.Prelude.{filter}
use Rattle.mh_grammar.specs.declared.types.Grammar.{Grammar}
use Rattle.mh_grammar.specs.Plain.{plain_of}
use Rattle.mh_grammar.specs.Text.{Text}
use Rattle.mh_grammar.specs.NotLacking.{NotLacking}
use Rattle.mh_grammar.proofs.NotLacking.{given, chain}
use Rattle.mh_items_kernels.specs.KernelTypes.{Automaton}
use Rattle.mh_items_kernels.specs.Automaton.{IsAutomaton}
use Rattle.mh_msgfile.specs.declared.loose.LooseLine.{LooseLine}
use Rattle.mh_msgfile.specs.declared.loose.LooseEntry.{LooseEntry}
use Rattle.mh_msgfile.specs.declared.loose.LooseFile.{LooseFile}
use Rattle.mh_rebase.proofs.DecidesEntries.{decided_append}
use Rattle.mh_rebase.specs.Decisions.{Decision, Keep, Drop, DecidedLine, IsDecision, AreDecided}
use Rattle.mh_rebase.specs.RebasedText.{DecidedEntry, IsRebased, is_new_row, kept_entries_text, dropped_entries_text, lines_in, without_decisions}
use Rattle.mh_resolve_cells.specs.declared.kinds.Mode.{Mode}
use Rattle.mh_resolve_cells.specs.States.{IsTableOf}
use Rattle.mh_tables_core.specs.Table.{TableData}
use Rattle.mh_tables_core.specs.Failing.{CatalogueRow, FailsFirst}
use Rattle.mh_tables_core.specs.Halting.{HaltingFacts}
use Rattle.mh_top_outcomes.proofs.SomeCatalogue.{some_catalogue}
use Rattle.mh_top_outcomes.proofs.SomeDecision.{KeptOrDropped, Kept, Dropped, kept_or_dropped}
use Rattle.mh_top_outcomes.proofs.SomeEntries.{some_comments, some_entries}

row_kept : (P : CatalogueRow → Type 0) (test : CatalogueRow → Bool) (row : CatalogueRow) (rows : List CatalogueRow) (b : Bool) → test row ≡ b → P row → AllByRecursion P (filter test rows) → AllByRecursion P (filter test (row ∷ rows))
row_kept P test row rows true is here rest = rw is (here, rest)
row_kept P test row rows false is here rest = rw is rest

kept_rows : (P : CatalogueRow → Type 0) (test : CatalogueRow → Bool) (rows : List CatalogueRow) → AllByRecursion P rows → AllByRecursion P (filter test rows)
kept_rows P test [] all = tt
kept_rows P test (row ∷ rows) all = row_kept P test row rows (test row) refl all.0 (kept_rows P test rows all.1)

module _ (expected : Bool) (g : Grammar) (a : Automaton) (mode : Mode) (t : TableData) (h : HaltingFacts t) (automaton : IsAutomaton (plain_of g) a) (table : IsTableOf g a mode t) where
  abbrev Decides : List DecidedLine → Text → Type 0
  Decides before text = (d : Decision) × IsDecision expected g a t before text d

  decision_of : (before : List DecidedLine) (text : Text) → KeptOrDropped g t before text → Decides before text
  decision_of before text (Kept x s read fails first) =
      let lines = some_comments expected g a mode t h automaton table x.start x.tokens s fails in
      (Keep x s lines.0, record { read = read; fails = fails; first = first; commented = lines.1 })
  decision_of before text (Dropped reason is) = (Drop reason, is)

  some_decision : (before : List DecidedLine) (text : Text) → Decides before text
  some_decision before text = decision_of before text (kept_or_dropped g t h table.grammar before text)

  decided_lines : (before : List DecidedLine) (xs : List LooseLine) → (js : List DecidedLine) × (map (λ j. j.line) js ≡ xs) × AreDecided expected g a t before js
  decided_lines before [] = ([], refl, tt)
  decided_lines before (x ∷ xs) =
      let d = some_decision before x.text in
      let rest = decided_lines (before ++ record { line = x; decision = d.0 } ∷ []) xs in
      (record { line = x; decision = d.0 } ∷ rest.0, ap (λ (l : List LooseLine). x ∷ l) rest.1, (d.1, rest.2))

  decided_entries : (before : List DecidedLine) (es : List LooseEntry) → (ds : List DecidedEntry) × (map without_decisions ds ≡ es) × AreDecided expected g a t before (lines_in ds)
  decided_entries before [] = ([], refl, tt)
  decided_entries before (e ∷ es) =
      let js = decided_lines before e.sentences in
      let rest = decided_entries (before ++ js.0) es in
      let same : without_decisions (record { sentences = js.0; message = e.message }) ≡ e = (λ i. record { sentences = js.1 i; message = e.message }) in (
        record { sentences = js.0; message = e.message } ∷ rest.0,
        ap (λ (x : LooseEntry). x ∷ map without_decisions rest.0) same ∙ ap (λ (l : List LooseEntry). e ∷ l) rest.1,
        decided_append expected g a t before js.0 (lines_in rest.0) js.2 rest.2,
      )

  pub some_rebased : (file : LooseFile) → NotLacking ((text : Text) × IsRebased expected g a t file text)
  some_rebased file = chain (some_catalogue t h.facts) (λ c.
      let ds = decided_entries [] file.entries in
      let rows = filter (is_new_row (lines_in ds.0)) c.0 in
      let new = some_entries expected g a mode t h automaton table rows (kept_rows (λ row. FailsFirst t row.start row.sentence row.state) (is_new_row (lines_in ds.0)) c.0 c.1.each) in
      given (kept_entries_text g ds.0 ++ new.0 ++ dropped_entries_text ds.0, record { entries = ds.0; of_file = ds.1; decided = ds.2; rows = c.0; catalogue = c.1; new = new.0; are_new = new.1; is = refl }))
