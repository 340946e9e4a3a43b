-- The condition under which a position can be reduced.
use Rattle.std.specs.Prelude.{ℕ, length, ◌<◌, ◌≤◌}
use Rattle.mh_grammar.specs.Plain.{rhs_of, production_count}
use Rattle.mh_tables_core.specs.Facts.{HasGoto}
use Rattle.mh_tables_core.specs.Run.{top_of}
use Rattle.mh_engine.specs.code.Cells.{without_last}
use Rattle.mh_engine.specs.Positions.{Position}

-- The production p is an ordinary one, its right side is not longer than the stack, and the state below has a goto on
-- its left side.
pub record CanReduce (c : Position) (p : ℕ) : Type 0 where
  pub ordinary : length c.table.grammar.starts ≤ p
  pub known : p < production_count c.table.grammar
  pub pairs : length (rhs_of c.table.grammar p) ≤ length c.pairs.trees
  pub below : top_of (without_last (length (rhs_of c.table.grammar p)) c.pairs).states < length c.table.states
  pub goto : HasGoto c.table (top_of (without_last (length (rhs_of c.table.grammar p)) c.pairs).states) p
