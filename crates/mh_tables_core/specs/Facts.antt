-- The invariant of tables: the numbers are in range, and the states fit together as those of an LR(1) automaton do
-- (Knuth 1965). The list of the properties is this project's own.
use Rattle.std.specs.Prelude.{◌≡◌, ℕ, length, slice_get, Some, ◌-◌, ◌^◌, ◌<◌, ◌≤◌, ◌⊎◌}
use Rattle.std.specs.List.{All, Contains}
use Rattle.mh_grammar.specs.declared.types.Symbol.{Symbol}
use Rattle.mh_grammar.specs.declared.types.Symbol.TheVariants.{T, N}
use Rattle.mh_grammar.specs.Costs.{IsCost}
use Rattle.mh_grammar.specs.Plain.{production_count, rhs_of, lhs_of, IsInRange, IsSymbolBelow}
use Rattle.mh_grammar.specs.Edges.{IsRising, IsEdgeBefore}
use Rattle.mh_tables_core.specs.declared.parts.Action.TheVariants as actions
use Rattle.mh_tables_core.specs.declared.parts.Fallback.TheVariants as fallbacks
use Rattle.mh_tables_core.specs.Table.{TableData, state_at, cell_of, fallback_of, edge_of}

-- The pair of the production p and the dot d is in the core of state s.
unfoldable pub InCore : TableData → ℕ → ℕ → ℕ → Type 0
InCore t s p d = Contains (state_at t s).core (record { production = p; dot = d })

-- State r has an edge on the left side of production p.
abbrev pub HasGoto : TableData → ℕ → ℕ → Type 0
HasGoto t r p = (u : ℕ) × (edge_of t r (N (lhs_of t.grammar p)) ≡ Some u)

-- State s reduces production p, by its default or by a cell.
abbrev pub ReducesBy : TableData → ℕ → ℕ → Type 0
ReducesBy t s p = (fallback_of t s ≡ Some (fallbacks.Reduce p)) ⊎ ((z : ℕ) × (cell_of t s z ≡ actions.Reduce p))

-- For an edge on x from r to a state with the pair (p, d) in its core: the dot of the pair is after x, and the pair
-- comes from the kernel or the closure of r.
pub record IsMovedFrom (t : TableData) (r : ℕ) (x : Symbol) (p d : ℕ) : Type 0 where
  pub moved : 0 < d
  pub symbol : slice_get (rhs_of t.grammar p) (d - 1) ≡ Some x
  -- The pair with the dot one symbol earlier is in the core of r, or the production begins in r.
  pub source : InCore t r p (d - 1) ⊎ ((d ≡ 1) × (length t.grammar.starts ≤ p) × HasGoto t r p)

-- The numbers are in range, and each row has its length.
pub record AreInRange (t : TableData) : Type 0 where
  pub grammar : IsInRange t.grammar
  pub costs : All IsCost t.costs
  pub each_cost : length t.costs ≡ t.grammar.tokens
  pub few_states : length t.states < 2 ^ 32
  pub each_row : (s : ℕ) → s < length t.states → length (state_at t s).cells ≡ t.grammar.tokens
  pub each_symbol : (s : ℕ) (x : Symbol) (u : ℕ) → edge_of t s x ≡ Some u → IsSymbolBelow t.grammar.tokens t.grammar.nonterminals x
  pub order : (s : ℕ) → IsRising IsEdgeBefore (state_at t s).edges

-- The invariant of tables.
pub record Facts (t : TableData) : Type 0 where
  pub ranges : AreInRange t
  pub each_target : (s : ℕ) (x : Symbol) (u : ℕ) → edge_of t s x ≡ Some u → u < length t.states
  pub each_core : (s p d : ℕ) → InCore t s p d → (p < production_count t.grammar) × (d ≤ length (rhs_of t.grammar p))
  -- The first states are the start states. Each other state has a nonempty core without dots at the beginning.
  pub enough_states : length t.grammar.starts ≤ length t.states
  pub start_core : (i p d : ℕ) → i < length t.grammar.starts → InCore t i p d → (p ≡ i) × (d ≡ 0)
  pub starts : (i : ℕ) → i < length t.grammar.starts → InCore t i i 0
  pub filled : (s : ℕ) → s < length t.states → 0 < length (state_at t s).core
  pub other_cores_moved : (s p d : ℕ) → length t.grammar.starts ≤ s → InCore t s p d → 0 < d
  -- An edge moves the dot over its symbol.
  pub moved_from : (r : ℕ) (x : Symbol) (u p d : ℕ) → edge_of t r x ≡ Some u → InCore t u p d → IsMovedFrom t r x p d
  -- A production that a state reduces is complete in it.
  pub ordinary : (s p : ℕ) → ReducesBy t s p → (length t.grammar.starts ≤ p) × (p < production_count t.grammar)
  pub complete : (s p : ℕ) → ReducesBy t s p → InCore t s p (length (rhs_of t.grammar p)) ⊎ ((length (rhs_of t.grammar p) ≡ 0) × HasGoto t s p)
  -- A shift follows an edge.
  pub shifts : (s z j : ℕ) → cell_of t s z ≡ actions.Shift j → edge_of t s (T z) ≡ Some j
  -- A state that accepts has its dot after a start symbol.
  pub accepts : (s : ℕ) → fallback_of t s ≡ Some fallbacks.Accept → (i : ℕ) × (i < length t.grammar.starts) × InCore t s i 1
