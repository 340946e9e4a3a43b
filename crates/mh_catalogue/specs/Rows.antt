-- The result of `catalogue`: its rows, or the fault (Pottier 2016); costs and the limit are this project's own.
use Rattle.std.specs.Prelude.{◌≡◌, ℕ, List, map, length, ◌≤◌, Result, Err, IfOk, Vec}
use Rattle.std.specs.declared.alloc.Global.{Global}
use Rattle.std.specs.List.{AllByRecursion}
use Rattle.mh_tables_core.specs.Table.{TableData}
use Rattle.mh_tables_core.specs.Failing.{CatalogueRow, Catalogue, TooLongAt, max_sentence_cost}
use Rattle.mh_catalogue.specs.declared.rows.CatalogueFault.{CatalogueFault}
use Rattle.mh_catalogue.specs.declared.rows.CatalogueFault.TheVariants.{TooLong}
use Rattle.mh_catalogue.specs.declared.rows.Row.{Row}

-- A row, as the definition of a catalogue sees it.
abbrev pub row_of : Row → CatalogueRow
row_of r = record { state = r.state; start = r.start; sentence = r.sentence }

abbrev pub rows_of : List Row → List CatalogueRow
rows_of rows = map row_of rows

-- No sentence has more tokens than the greatest cost of a sentence; each token costs at least 1.
abbrev pub AreShort : List CatalogueRow → Type 0
AreShort rows = AllByRecursion (λ row. length row.sentence ≤ max_sentence_cost) rows

-- What each result says. Rows are the catalogue of the table, their sentences are short, and each state in which a
-- sentence fails has a failing sentence within the greatest cost. The fault `TooLong` has the lowest state in which all
-- failing sentences are above the greatest cost. The third result, want of memory, says nothing of the table.
pub record IsCatalogueResult (t : TableData) (made : Result (Vec Row Global) CatalogueFault) : Type 0 where
  pub ok : IfOk made (λ rows. Catalogue t (rows_of rows.items))
  pub short : IfOk made (λ rows. AreShort (rows_of rows.items))
  pub none_too_long : IfOk made (λ _. (s : ℕ) → TooLongAt t s → ⊥)
  pub too_long : (s : ℕ) → made ≡ Err (TooLong s) → TooLongAt t s
