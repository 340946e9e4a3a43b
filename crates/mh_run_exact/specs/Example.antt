-- A grammar of one production with its automaton and its table. The example shows that the premises of the laws on
-- exact verdicts can be satisfied.
use Rattle.std.specs.Prelude.{List, [], ◌∷◌, Some, None}
use Rattle.mh_grammar.specs.declared.types.Symbol.TheVariants.{T, N}
use Rattle.mh_grammar.specs.declared.types.Look.TheVariants.{End}
use Rattle.mh_grammar.specs.declared.types.Grammar.{Grammar}
use Rattle.mh_grammar.specs.Plain.{plain_of, IsInRange, IsSentence}
use Rattle.mh_items_kernels.specs.KernelTypes.{Automaton}
use Rattle.mh_items_kernels.specs.Automaton.{IsAutomaton}
use Rattle.mh_tables_core.specs.declared.parts.Action.TheVariants.{Shift, Refuse}
use Rattle.mh_tables_core.specs.declared.parts.Fallback.TheVariants as fallbacks
use Rattle.mh_tables_core.specs.declared.parts.StateParts.{StateParts}
use Rattle.mh_tables_core.specs.Table.{TableData, table_data}
use Rattle.mh_tables_core.specs.Facts.{Facts}
use Rattle.mh_resolve_cells.specs.declared.kinds.Mode.{Mode}
use Rattle.mh_resolve_cells.specs.States.{IsTableOf}
use Rattle.mh_resolve_cells.specs.NoConflicts.{HasNoConflicts}
use Rattle.mh_run_exact.specs.Exactness.{AllProductive}

-- The grammar with the production `s: A`.
abbrev pub one_grammar : Grammar
one_grammar = record {
  tokens = record { name = 65 ∷ []; level = None; cost = 1 } ∷ [];
  nonterminals = record { name = 115 ∷ []; on_error = None } ∷ [];
  productions = record { lhs = 0; rhs = T 0 ∷ []; level = None } ∷ [];
  starts = 0 ∷ [];
}

-- Its automaton. The states are the start state, the state after A and the state after s.
abbrev pub one_automaton : Automaton
one_automaton = record {
  kernels =
      record { items = record { production = 0; dot = 0; looks = End ∷ [] } ∷ [] }
      ∷ record { items = record { production = 1; dot = 1; looks = End ∷ [] } ∷ [] }
      ∷ record { items = record { production = 0; dot = 1; looks = End ∷ [] } ∷ [] }
      ∷ [];
  edges = (record { symbol = T 0; target = 1 } ∷ record { symbol = N 0; target = 2 } ∷ []) ∷ [] ∷ [] ∷ [];
}

abbrev pub one_states : List StateParts
one_states =
    record {
      cells = Shift 1 ∷ [];
      fallback = None;
      edges = record { symbol = T 0; target = 1 } ∷ record { symbol = N 0; target = 2 } ∷ [];
      core = record { production = 0; dot = 0 } ∷ [];
    }
    ∷ record { cells = Refuse ∷ []; fallback = Some (fallbacks.Reduce 1); edges = []; core = record { production = 1; dot = 1 } ∷ [] }
    ∷ record { cells = Refuse ∷ []; fallback = Some fallbacks.Accept; edges = []; core = record { production = 0; dot = 1 } ∷ [] }
    ∷ []

abbrev pub one_table : TableData
one_table = table_data one_grammar one_states

-- All premises of the laws on exact verdicts, for a grammar that has a start symbol and a sentence.
pub record MeetsPremises (g : Grammar) (a : Automaton) (mode : Mode) (t : TableData) : Type 0 where
  pub range : IsInRange (plain_of g)
  pub facts : Facts t
  pub automaton : IsAutomaton (plain_of g) a
  pub table : IsTableOf g a mode t
  pub clear : HasNoConflicts g a
  pub productive : AllProductive (plain_of g)
  pub sentence : IsSentence (plain_of g) 0 (0 ∷ [])
