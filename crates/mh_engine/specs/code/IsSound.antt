-- The invariant of a checkpoint's position.
use Rattle.std.specs.Prelude.{◌≡◌, false}
use Rattle.mh_tables_core.specs.RunTrees.{TreesMatchStack}
use Rattle.mh_engine.specs.Positions.{Position}
use Rattle.mh_tables_core.specs.TooDeep.{too_deep}

-- The trees are those of a run to these states, and they are not too deep.
pub record IsSound (c : Position) : Type 0 where
  pub trees_match : TreesMatchStack c.table c.pairs.states c.pairs.trees
  pub not_too_deep : too_deep c.pairs.trees ≡ false
