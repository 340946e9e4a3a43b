-- The invariant of `Prepared` that the code of the modes needs.
use Rattle.std.specs.Prelude.{◌<◌, length}
use Rattle.mh_grammar.specs.Plain.{plain_of, IsInRange}
use Rattle.mh_items_kernels.specs.Automaton.{IsAutomaton}
use Rattle.mh_opts.specs.Orders.{IsWithinLimits}
use Rattle.mh_resolve_cells.specs.Conflicts.{AreConflicts}
use Rattle.mh_resolve_cells.specs.States.{IsTableOf}
use Rattle.mh_top_drive.specs.Shapes.{Prepared}

-- The numbers in the grammar are in range, the grammar has a start symbol, the job is within its limits, the automaton
-- is one of the grammar, and the table and the conflicts are those of the automaton.
pub record IsConsistent (p : Prepared) : Type 0 where
  pub range : IsInRange (plain_of p.grammar)
  pub start : 0 < length p.grammar.starts
  pub limits : IsWithinLimits p.order.job
  pub automaton : IsAutomaton (plain_of p.grammar) p.tabled.automaton
  pub table : IsTableOf p.grammar p.tabled.automaton p.tabled.mode p.tabled.halting
  pub conflicts : AreConflicts p.grammar p.tabled.automaton p.tabled.conflicts
