-- Automata without conflicts, and the actions of their tables.
use Rattle.std.specs.Prelude.{◌≡◌, ◌<◌, ◌≤◌, ℕ, Some, None, length, slice_index_or}
use Rattle.mh_grammar.specs.declared.types.Symbol.TheVariants.{T}
use Rattle.mh_grammar.specs.declared.types.Grammar.{Grammar}
use Rattle.mh_grammar.specs.declared.types.Look.{Look}
use Rattle.mh_grammar.specs.declared.types.Look.TheVariants.{Token, End}
use Rattle.mh_items_kernels.specs.KernelTypes.{Automaton}
use Rattle.mh_tables_core.specs.declared.parts.Action.{Action}
use Rattle.mh_tables_core.specs.declared.parts.Action.TheVariants.{Shift, Reduce, Refuse}
use Rattle.mh_tables_core.specs.declared.parts.Fallback.{Fallback}
use Rattle.mh_tables_core.specs.declared.parts.Fallback.TheVariants as fallbacks
use Rattle.mh_tables_core.specs.declared.parts.StateParts.{StateParts}
use Rattle.mh_grammar.specs.Edges.{find_edge}
use Rattle.mh_resolve_cells.specs.Cells.{IsConflict}
use Rattle.mh_resolve_cells.specs.States.{State, state_of, Raw, IsStreamConflict}

-- The state has neither a conflict nor an end-of-stream conflict.
pub record IsConflictFreeState (s : State) : Type 0 where
  pub no_conflict : (look : Look) → IsConflict (Raw s look) → ⊥
  pub no_stream_conflict : IsStreamConflict s → ⊥

-- No state of the automaton has a conflict of either kind. For the canonical automaton this says that the grammar is
-- LR(1) (Knuth 1965) and that no state has an end-of-stream conflict.
abbrev pub HasNoConflicts : Grammar → Automaton → Type 0
HasNoConflicts g a = (s : ℕ) → s < length a.kernels → IsConflictFreeState (state_of g a s)

-- Some cell of some state has two raw actions.
abbrev pub HasRawConflict : Grammar → Automaton → Type 0
HasRawConflict g a = (s : ℕ) × (s < length a.kernels) × (look : Look) × IsConflict (Raw (state_of g a s) look)

-- The production is complete in the state on some look.
pub record IsCompleteIn (s : State) (p : ℕ) : Type 0 where
  pub look : Look
  pub complete : Raw s look (Reduce p)

-- The default follows from the action: to accept, if the action reduces a start production; else to reduce the
-- production of the action.
abbrev pub IsDefaultOf : ℕ → Fallback → Action → Type 0
IsDefaultOf starts fallbacks.Accept (Reduce p) = p < starts
IsDefaultOf starts (fallbacks.Reduce q) (Reduce p) = (starts ≤ p) × (p ≡ q)
IsDefaultOf starts f a = ⊥

-- The cell of a token.
abbrev pub cell_at : StateParts → ℕ → Action
cell_at parts z = slice_index_or parts.cells z Refuse

-- The table's state is sound, with or without conflicts: its shifts follow edges, and its reductions and its default
-- are of productions that are complete in the state.
pub record ActsSoundly (s : State) (parts : StateParts) : Type 0 where
  pub shifts : (z j : ℕ) → cell_at parts z ≡ Shift j → find_edge s.edges (T z) ≡ Some j
  pub reduces : (z p : ℕ) → cell_at parts z ≡ Reduce p → (length s.grammar.starts ≤ p) × IsCompleteIn s p
  pub default : (f : Fallback) → parts.fallback ≡ Some f → (p : ℕ) × IsCompleteIn s p × IsDefaultOf (length s.grammar.starts) f (Reduce p)

-- The table's state is complete, given no conflicts: it takes each raw action.
pub record ActsCompletely (s : State) (parts : StateParts) : Type 0 where
  -- If the state has no default, a cell with a raw action holds this action.
  pub cells : parts.fallback ≡ None → (z : ℕ) (a : Action) → z < length s.grammar.tokens → Raw s (Token z) a → cell_at parts z ≡ a
  -- If the state has a default, each raw action is that of the default.
  pub default : (f : Fallback) → parts.fallback ≡ Some f → (look : Look) (a : Action) → Raw s look a → IsDefaultOf (length s.grammar.starts) f a
  -- If the state has a raw action at the end of the stream, it has a default.
  pub at_end : (a : Action) → Raw s End a → (f : Fallback) × (parts.fallback ≡ Some f)
