-- The definition of a catalogue's rows up to a state.
use Rattle.std.specs.Prelude.{◌≡◌, ℕ, List, ◌<◌}
use Rattle.std.specs.List.{AllByRecursion, Contains}
use Rattle.mh_grammar.specs.Edges.{IsRising}
use Rattle.mh_tables_core.specs.Table.{TableData}
use Rattle.mh_tables_core.specs.Failing.{CatalogueRow, IsRowBefore, FailsFirst, FailsWithinMaxCost, Failing}
use Rattle.mh_catalogue.specs.Rows.{AreShort}

-- The rows are those of the catalogue's states below the limit.
pub record RowsBelow (t : TableData) (limit : ℕ) (rows : List CatalogueRow) : Type 0 where
  pub rising : IsRising IsRowBefore rows
  pub each : AllByRecursion (λ row. FailsFirst t row.start row.sentence row.state) rows
  pub below : AllByRecursion (λ row. row.state < limit) rows
  pub are_short : AreShort rows
  pub complete : (s : ℕ) → s < limit → Failing t s → (row : CatalogueRow) × Contains rows row × (row.state ≡ s)
  pub failing_are_cheap : (s : ℕ) → s < limit → Failing t s → FailsWithinMaxCost t s
