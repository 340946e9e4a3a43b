-- What is made of an accepted grammar.
use Rattle.std.specs.Prelude.{List}
use Rattle.mh_items_kernels.specs.KernelTypes.{Automaton}
use Rattle.mh_tables_core.specs.Table.{TableData}
use Rattle.mh_resolve_cells.specs.declared.conflicts.Conflict.{Conflict}

-- The automaton of a grammar, its table, and the conflicts.
pub record Built : Type 0 where
  pub automaton : Automaton
  pub table : TableData
  pub conflicts : List Conflict
