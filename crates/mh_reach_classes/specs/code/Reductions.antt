-- Definitions of the reductions that lead to states.
use Rattle.std.specs.Prelude.{◌≡◌, ℕ, List, length, Option, Some, None, ◌<◌, ◌≤◌}
use Rattle.std.specs.List.{Contains}
use Rattle.mh_grammar.specs.declared.types.Symbol.TheVariants.{N}
use Rattle.mh_grammar.specs.declared.edges.Edge.{Edge}
use Rattle.mh_grammar.specs.Plain.{production_count, rhs_of, lhs_of, IsProductionFor}
use Rattle.mh_tables_core.specs.Table.{TableData, state_at, edge_of}
use Rattle.mh_facts.specs.code.BestFirst.{IsPathEnd}
use Rattle.mh_reach_classes.specs.declared.leading_reductions.Reduction.{Reduction}

-- The result is the state at the end of the path along the right side, or `None` if there is no such path.
abbrev pub IsPathEndOrNone : TableData → ℕ → ℕ → Option ℕ → Type 0
IsPathEndOrNone t from production None = (e : ℕ) → IsPathEnd t from production (length (rhs_of t.grammar production)) e → ⊥
IsPathEndOrNone t from production (Some e) = IsPathEnd t from production (length (rhs_of t.grammar production)) e

-- The reduction by the production p, of a path from `from`, with the goto to `target`.
pub record IsReductionBy (t : TableData) (from target p : ℕ) (r : Reduction) : Type 0 where
  pub end : ℕ
  pub ends : IsPathEnd t from p (length (rhs_of t.grammar p)) end
  pub is : r ≡ record { end = end; production = p; target = target }

abbrev pub IsReductionByAny : TableData → ℕ → ℕ → List ℕ → Reduction → Type 0
IsReductionByAny t from target productions r = (p : ℕ) × Contains productions p × IsReductionBy t from target p r

-- A reduction by any production of the edge's nonterminal.
abbrev pub IsReductionOverEdge : TableData → ℕ → Edge → Reduction → Type 0
IsReductionOverEdge t from edge r = (n : ℕ) × (edge.symbol ≡ N n) × ((p : ℕ) × IsProductionFor t.grammar n p × IsReductionBy t from edge.target p r)

-- A reduction with a goto on any edge of the state.
abbrev pub IsReductionFrom : TableData → ℕ → Reduction → Type 0
IsReductionFrom t from r = (edge : Edge) × Contains (state_at t from).edges edge × IsReductionOverEdge t from edge r

-- The list has every reduction of a path from a state with a goto there, and its numbers are in the range of the table.
pub record AreAllReductions (t : TableData) (past : List Reduction) : Type 0 where
  pub all : (s q e g : ℕ) → s < length t.states → length t.grammar.starts ≤ q → q < production_count t.grammar → IsPathEnd t s q (length (rhs_of t.grammar q)) e → edge_of t s (N (lhs_of t.grammar q)) ≡ Some g → Contains past (record { end = e; production = q; target = g })
  pub known : (r : Reduction) → Contains past r → (r.end < length t.states) × (r.target < length t.states) × (r.production < production_count t.grammar)
