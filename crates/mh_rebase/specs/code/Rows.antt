-- The contract of the functions that write the rows of a catalogue.
use Rattle.std.specs.Prelude.{◌≡◌, ◌<◌, ◌^◌, ℕ, Bool, List, ◌++◌, filter, length, Option, is_none}
use Rattle.mh_grammar.specs.declared.types.Grammar.{Grammar}
use Rattle.mh_grammar.specs.Text.{Text}
use Rattle.mh_rebase.specs.code.Reasons.{kept_line_in}
use Rattle.mh_items_kernels.specs.KernelTypes.{Automaton}
use Rattle.mh_tables_core.specs.Table.{TableData}
use Rattle.mh_tables_core.specs.Failing.{Fails, CatalogueRow}
use Rattle.mh_catalogue.specs.Rows.{rows_of}
use Rattle.mh_catalogue.specs.declared.rows.Row.{Row}
use Rattle.mh_report.specs.CatalogueTexts.{AreEntries}

-- The sentence of the row fails in the state of the row, and its tokens can be counted.
pub record IsFitRow (t : TableData) (row : Row) : Type 0 where
  pub fails : Fails t row.start row.sentence row.state
  pub few : length row.sentence < 2 ^ 32

-- Whether no kept sentence fails in the state of the row.
abbrev pub has_no_kept_line : List (Option ℕ) → CatalogueRow → Bool
has_no_kept_line kept row = is_none (kept_line_in kept row.state)

-- The entries of the rows in whose states no kept sentence fails are appended.
abbrev pub WritesRows : (expected : Bool) → Grammar → Automaton → TableData → List (Option ℕ) → List Row → Text → Text → Type 0
WritesRows expected g a t kept rows old new = (entries : Text) × AreEntries expected g a t (filter (has_no_kept_line kept) (rows_of rows)) entries × (new ≡ old ++ entries)
