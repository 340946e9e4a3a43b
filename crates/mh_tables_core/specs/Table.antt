-- Tables and the functions that read them: the ACTION and GOTO tables of Aho, Lam, Sethi and Ullman, with defaults
-- added.
use Rattle.std.specs.Prelude.{ℕ, List, [], slice_index, slice_index_or, Option, None}
use Rattle.mh_grammar.specs.declared.types.Symbol.{Symbol}
use Rattle.mh_grammar.specs.declared.types.Grammar.{Grammar}
use Rattle.mh_grammar.specs.Costs.{costs_of}
use Rattle.mh_grammar.specs.Plain.{PlainGrammar, plain_of}
use Rattle.mh_grammar.specs.Edges.{find_edge}
use Rattle.mh_tables_core.specs.declared.parts.Action.{Action}
use Rattle.mh_tables_core.specs.declared.parts.Action.TheVariants as actions
use Rattle.mh_tables_core.specs.declared.parts.Fallback.{Fallback}
use Rattle.mh_tables_core.specs.declared.parts.StateParts.{StateParts}

-- A table: a grammar without its names, the costs of its tokens, and its states.
pub record TableData : Type 0 where
  pub grammar : PlainGrammar
  pub costs : List ℕ
  pub states : List StateParts

-- The table of a grammar with these states.
abbrev pub table_data : Grammar → List StateParts → TableData
table_data g states = record { grammar = plain_of g; costs = costs_of g.tokens; states = states }

-- The cost of a token.
unfoldable pub cost_of_token : TableData → ℕ → ℕ
cost_of_token t z = slice_index t.costs z

-- The parts that are returned for a number that is not the number of a state.
abbrev pub no_state : StateParts
no_state = record { cells = []; fallback = None; edges = []; core = [] }

-- The parts of a state.
abbrev pub state_at : TableData → ℕ → StateParts
state_at t s = slice_index_or t.states s no_state

-- The cell of a state and a token.
unfoldable pub cell_of : TableData → ℕ → ℕ → Action
cell_of t s z = slice_index_or (state_at t s).cells z actions.Refuse

-- The default of a state, if it has one.
unfoldable pub fallback_of : TableData → ℕ → Option Fallback
fallback_of t s = (state_at t s).fallback

-- The target of the edge of a state on a symbol, if there is one.
unfoldable pub edge_of : TableData → ℕ → Symbol → Option ℕ
edge_of t s x = find_edge (state_at t s).edges x
