-- The precondition of calls on an automaton and a table with the same states.
use Rattle.std.specs.Prelude.{◌≡◌, ◌≤◌, ℕ, length}
use Rattle.mh_grammar.specs.declared.types.Grammar.{Grammar}
use Rattle.mh_grammar.specs.Plain.{plain_of}
use Rattle.mh_items_kernels.specs.KernelTypes.{Automaton}
use Rattle.mh_items_kernels.specs.Automaton.{IsAutomaton}
use Rattle.mh_tables_core.specs.Table.{TableData}

-- The automaton is one of the grammar, its lookahead sets have at most eight words, and the table has as many states.
pub record FitsStates (W : ℕ) (g : Grammar) (a : Automaton) (t : TableData) : Type 0 where
  pub few : W ≤ 8
  pub automaton : IsAutomaton (plain_of g) a
  pub states : length t.states ≡ length a.kernels
