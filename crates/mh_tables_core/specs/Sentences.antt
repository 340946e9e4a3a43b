-- The sentences on which a table can run.
use Rattle.std.specs.Prelude.{◌<◌, ◌^◌, ℕ, List, length}
use Rattle.std.specs.List.{All}
use Rattle.mh_tables_core.specs.Table.{TableData}

-- The start number s and the tokens of w are those of the table's grammar, and w has fewer than 2^32 tokens.
pub record FitsTable (t : TableData) (s : ℕ) (w : List ℕ) : Type 0 where
  pub start : s < length t.grammar.starts
  pub tokens : All (λ z. z < t.grammar.tokens) w
  pub few : length w < 2 ^ 32
