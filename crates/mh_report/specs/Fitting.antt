-- The precondition of calls on an automaton and its table.
use Rattle.std.specs.Prelude.{◌≤◌, ℕ}
use Rattle.mh_grammar.specs.declared.types.Grammar.{Grammar}
use Rattle.mh_grammar.specs.Plain.{plain_of, IsInRange}
use Rattle.mh_items_kernels.specs.KernelTypes.{Automaton}
use Rattle.mh_items_kernels.specs.Automaton.{IsAutomaton}
use Rattle.mh_tables_core.specs.Table.{TableData}
use Rattle.mh_resolve_cells.specs.declared.kinds.Mode.{Mode}
use Rattle.mh_resolve_cells.specs.States.{IsTableOf}

-- The numbers of the grammar are in range, the automaton is one of the grammar, with lookahead sets of at most eight
-- words, and the table is the one that this automaton gives; `mode` is the kind of the automaton, merged or canonical.
pub record HasTable (W : ℕ) (g : Grammar) (a : Automaton) (mode : Mode) (t : TableData) : Type 0 where
  pub few : W ≤ 8
  pub range : IsInRange (plain_of g)
  pub automaton : IsAutomaton (plain_of g) a
  pub table : IsTableOf g a mode t
