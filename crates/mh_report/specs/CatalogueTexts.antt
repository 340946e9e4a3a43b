-- The definition of the text of a catalogue: an entry for each state in which some sentence fails (Menhir manual,
-- `--list-errors`; the states: Pottier 2016; the layout of entries is this project's own).
use Rattle.std.specs.Prelude.{◌≡◌, Bool, List, [], ◌∷◌, ◌++◌}
use Rattle.mh_grammar.specs.declared.types.Grammar.{Grammar}
use Rattle.mh_items_kernels.specs.KernelTypes.{Automaton}
use Rattle.mh_tables_core.specs.Table.{TableData}
use Rattle.mh_tables_core.specs.Failing.{CatalogueRow, Catalogue}
use Rattle.mh_report.specs.Comments.{IsEntryText}
use Rattle.mh_grammar.specs.Text.{Text}

-- The text is the entries of the rows, one after the other. An entry has the sentence of its row and comment lines on
-- the state, with the expected tokens or without.
abbrev pub AreEntries : (expected : Bool) → Grammar → Automaton → TableData → List CatalogueRow → Text → Type 0
AreEntries expected g a t [] text = text ≡ []
AreEntries expected g a t (row ∷ rows) text = (first rest : Text) × IsEntryText expected g a t row.start row.sentence first × AreEntries expected g a t rows rest × (text ≡ first ++ rest)

-- The text is the entries of the rows of the table's catalogue: the states in which some sentence fails, each once,
-- rising, each with the first sentence that fails there.
pub record IsCatalogueText (expected : Bool) (g : Grammar) (a : Automaton) (t : TableData) (text : Text) : Type 0 where
  pub rows : List CatalogueRow
  pub catalogue : Catalogue t rows
  pub entries : AreEntries expected g a t rows text
