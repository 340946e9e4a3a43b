-- The value of a session.
use Rattle.std.specs.Prelude.{List}
use Rattle.mh_tables_core.specs.Table.{TableData}
use Rattle.mh_engine.specs.Positions.{Position}
use Rattle.mh_grammar.specs.Text.{Text}

-- The table of a session, and its names with their positions.
pub record SessionState : Type 0 where
  pub table : TableData
  pub held : List (Text × Position)
