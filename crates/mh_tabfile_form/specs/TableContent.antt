-- The content of the table file of a grammar's automaton and table: everything that the grammar numbers is given by its
-- name.
use Rattle.std.specs.Prelude.{◌+◌, ◌++◌, ℕ, List, [], ◌∷◌, map, Some, None}
use Rattle.std.specs.List.{All}
use Rattle.mh_grammar.specs.declared.types.Grammar.{Grammar}
use Rattle.mh_grammar.specs.declared.types.TokenInfo.{TokenInfo}
use Rattle.mh_grammar.specs.declared.types.NontermInfo.{NontermInfo}
use Rattle.mh_grammar.specs.declared.types.Production.{Production}
use Rattle.mh_grammar.specs.declared.edges.Edge.{Edge}
use Rattle.mh_grammar.specs.Costs.{costs_of}
use Rattle.mh_grammar.specs.Names.{token_name, nonterminal_name, symbol_name}
use Rattle.mh_items_kernels.specs.KernelTypes.{KernelItem, Kernel, Automaton}
use Rattle.mh_tables_core.specs.declared.parts.Action.{Action}
use Rattle.mh_tables_core.specs.declared.parts.Action.TheVariants.{Shift, Reduce, Refuse}
use Rattle.mh_tables_core.specs.declared.parts.StateParts.{StateParts}
use Rattle.mh_resolve_cells.specs.declared.kinds.Mode.{Mode}
use Rattle.mh_resolve_cells.specs.Names.{look_name}
use Rattle.mh_tabfile_form.specs.declared.types.RawProduction.{RawProduction}
use Rattle.mh_tabfile_form.specs.declared.types.RawItem.{RawItem}
use Rattle.mh_tabfile_form.specs.declared.types.RawEdge.{RawEdge}
use Rattle.mh_tabfile_form.specs.declared.types.RawCell.{RawCell}
use Rattle.mh_tabfile_form.specs.declared.types.RawCells.{RawCells}
use Rattle.mh_tabfile_form.specs.declared.types.RawCells.TheVariants as cells
use Rattle.mh_tabfile_form.specs.declared.types.RawState.{RawState}
use Rattle.mh_tabfile_form.specs.declared.types.RawTable.{RawTable}
use Rattle.mh_tabfile_form.specs.Form.{IsWord}

abbrev pub raw_production : Grammar → Production → RawProduction
raw_production g p = record { lhs = nonterminal_name g p.lhs; rhs = map (symbol_name g) p.rhs }

abbrev pub raw_item : Grammar → KernelItem → RawItem
raw_item g item = record { production = item.production; dot = item.dot; looks = map (look_name g) item.looks }

abbrev pub raw_edge : Grammar → Edge → RawEdge
raw_edge g e = record { symbol = symbol_name g e.symbol; target = e.target }

-- The cell of one token. A cell that refuses the token is left out.
abbrev pub raw_cell : Grammar → ℕ → Action → List RawCell
raw_cell g z (Shift j) = record { token = token_name g z; action = Shift j } ∷ []
raw_cell g z (Reduce p) = record { token = token_name g z; action = Reduce p } ∷ []
raw_cell g z Refuse = []

-- The cells of the tokens from number `z` up.
abbrev pub raw_row : Grammar → ℕ → List Action → List RawCell
raw_row g z [] = []
raw_row g z (a ∷ rest) = raw_cell g z a ++ raw_row g (z + 1) rest

-- The default action of a state if it has one, else its cells.
abbrev pub raw_cells : Grammar → StateParts → RawCells
raw_cells g parts = elim parts.fallback [ None ↦ cells.Cells (raw_row g 0 parts.cells) | Some f ↦ cells.Fallback f ]

abbrev pub raw_state_of : Grammar → Kernel → List Edge → StateParts → RawState
raw_state_of g k edges parts = record { items = map (raw_item g) k.items; edges = map (raw_edge g) edges; cells = raw_cells g parts }

-- The states, from their kernels, their edges and their rows of the table.
abbrev pub raw_states : Grammar → List Kernel → List (List Edge) → List StateParts → List RawState
raw_states g [] rows parts = []
raw_states g (k ∷ ks) [] parts = []
raw_states g (k ∷ ks) (row ∷ rows) [] = []
raw_states g (k ∷ ks) (row ∷ rows) (p ∷ parts) = raw_state_of g k row p ∷ raw_states g ks rows parts

-- The content of the whole file, with the costs of the tokens.
abbrev pub raw_of : Grammar → Automaton → Mode → List StateParts → RawTable
raw_of g a mode parts = record {
  mode = mode;
  tokens = map (λ (t : TokenInfo). t.name) g.tokens;
  costs = Some (costs_of g.tokens);
  starts = map (nonterminal_name g) g.starts;
  productions = map (raw_production g) g.productions;
  states = raw_states g a.kernels a.edges parts;
}

-- The names of all tokens and nonterminals are words, so that the written file can be read back.
pub record HasWordNames (g : Grammar) : Type 0 where
  pub tokens : All (λ (t : TokenInfo). IsWord t.name) g.tokens
  pub nonterminals : All (λ (n : NontermInfo). IsWord n.name) g.nonterminals
