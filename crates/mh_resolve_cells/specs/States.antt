-- The actions of a state, from the items of its closure and its edges. Raw actions are those of Knuth 1965; conflicts,
-- the end of the stream, defaults and `%on_error_reduce` follow the Menhir manual, and this project's own rules where
-- the manual gives none.
use Rattle.std.specs.Prelude.{◌≡◌, ◌<◌, ◌≤◌, ◌⊎◌, ℕ, List, Option, Some, None, length, map, slice_index_or}
use Rattle.mh_grammar.specs.declared.types.Symbol.TheVariants.{T}
use Rattle.mh_grammar.specs.declared.types.Grammar.{Grammar}
use Rattle.mh_grammar.specs.declared.types.Look.{Look}
use Rattle.mh_grammar.specs.declared.types.Look.TheVariants.{Token, End}
use Rattle.mh_tables_core.specs.declared.parts.Action.{Action}
use Rattle.mh_tables_core.specs.declared.parts.Action.TheVariants.{Shift, Reduce, Refuse}
use Rattle.mh_tables_core.specs.declared.parts.Fallback.{Fallback}
use Rattle.mh_tables_core.specs.declared.parts.Fallback.TheVariants as fallbacks
use Rattle.mh_grammar.specs.declared.edges.Edge.{Edge}
use Rattle.mh_tables_core.specs.declared.parts.Place.{Place}
use Rattle.mh_items_kernels.specs.KernelTypes.{KernelItem, Kernel, Automaton}
use Rattle.mh_tables_core.specs.declared.parts.StateParts.{StateParts}
use Rattle.mh_grammar.specs.Costs.{costs_of}
use Rattle.mh_grammar.specs.ItemSets.{ItemSet, Close}
use Rattle.mh_grammar.specs.Plain.{plain_of, rhs_of}
use Rattle.mh_tables_core.specs.Table.{TableData, no_state}
use Rattle.mh_grammar.specs.Edges.{find_edge}
use Rattle.mh_items_kernels.specs.Automaton.{edges_at, kernel_at, closure_of}
use Rattle.mh_items_kernels.specs.Kernels.{Holds}
use Rattle.mh_resolve_cells.specs.declared.kinds.Mode.{Mode}
use Rattle.mh_resolve_cells.specs.declared.kinds.Mode.TheVariants.{Canonical}
use Rattle.mh_resolve_cells.specs.declared.kinds.ConflictKind.{ConflictKind}
use Rattle.mh_resolve_cells.specs.declared.kinds.ConflictKind.TheVariants.{Solved, Unsolved, Stream}
use Rattle.mh_resolve_cells.specs.Precedence.{comparison_on, error_rank}
use Rattle.mh_resolve_cells.specs.Cells.{IsChosen, IsHole, IsConflict, IsUnsolved}

-- A state: the items of its closure, and its edges.
pub record State : Type 1 where
  pub grammar : Grammar
  pub items : ItemSet
  pub edges : List Edge

-- State number s of an automaton.
abbrev pub state_of : Grammar → Automaton → ℕ → State
state_of g a s = record { grammar = g; items = closure_of (plain_of g) a s; edges = edges_at a s }

-- The state with this kernel and these edges.
abbrev pub closed_state : Grammar → Kernel → List Edge → State
closed_state g kernel edges = record { grammar = g; items = Close (plain_of g) (Holds kernel); edges = edges }

-- The target of the edge on a look; there is none at the end of the stream.
abbrev pub shift_on : List Edge → Look → Option ℕ
shift_on edges (Token z) = find_edge edges (T z)
shift_on edges End = None

-- The raw actions on a look: the shift, and the reduction of each production whose complete item has this look (Knuth
-- 1965).
abbrev pub RawOf : Grammar → ItemSet → Look → Option ℕ → Action → Type 0
RawOf g items look shift (Shift j) = shift ≡ Some j
RawOf g items look shift (Reduce p) = items p (length (rhs_of (plain_of g) p)) look
RawOf g items look shift Refuse = ⊥

-- The raw actions of a state on a look.
abbrev pub Raw : State → Look → Action → Type 0
Raw s look = RawOf s.grammar s.items look (shift_on s.edges look)

-- The action that precedence chooses on a look.
abbrev pub IsChosenOn : State → Look → Action → Type 0
IsChosenOn s look = IsChosen (comparison_on s.grammar look) (Raw s look)

-- The cell of the look is a hole: it has raw actions, and precedence leaves none.
abbrev pub IsHoleOn : State → Look → Type 0
IsHoleOn s look = IsHole (comparison_on s.grammar look) (Raw s look)

-- The state has an action at the end of the stream, and another action on a token (Menhir manual).
pub record IsStreamConflict (s : State) : Type 0 where
  pub last : Action
  pub token : ℕ
  pub other : Action
  pub takes_last : IsChosenOn s End last
  pub takes_other : IsChosenOn s (Token token) other
  pub differ : last ≡ other → ⊥

-- The action on a look that the state keeps: in an end-of-stream conflict the action at the end of the stream is
-- dropped (Menhir manual).
abbrev pub IsKeptOn : State → Look → Action → Type 0
IsKeptOn s (Token z) a = IsChosenOn s (Token z) a
IsKeptOn s End a = IsChosenOn s End a × (IsStreamConflict s → ⊥)

-- The state's default is to reduce p: it has an action, each action reduces p, and no cell is a hole. In canonical
-- mode, the end of the stream must have the action too (Menhir manual; this project's own).
pub record HasDefault (mode : Mode) (s : State) (p : ℕ) : Type 0 where
  pub look : Look
  pub some : IsKeptOn s look (Reduce p)
  pub all : (l : Look) (a : Action) → IsKeptOn s l a → a ≡ Reduce p
  pub no_hole : (l : Look) → IsHoleOn s l → ⊥
  pub canonical : mode ≡ Canonical → IsKeptOn s End (Reduce p)

-- The default of a state: the reduction of a start production is acceptance.
abbrev pub IsFallback : Mode → State → Option Fallback → Type 0
IsFallback mode s None = (p : ℕ) → HasDefault mode s p → ⊥
IsFallback mode s (Some fallbacks.Accept) = (i : ℕ) × (i < length s.grammar.starts) × HasDefault mode s i
IsFallback mode s (Some (fallbacks.Reduce p)) = (length s.grammar.starts ≤ p) × HasDefault mode s p

-- Production p is complete in the state, and `%on_error_reduce` names its left side, with this rank.
pub record IsErrorCandidate (s : State) (p rank : ℕ) : Type 0 where
  pub look : Look
  pub complete : Raw s look (Reduce p)
  pub rank_is : error_rank s.grammar p ≡ Some rank

-- Production p is the only candidate of the lowest rank, so that a state without a default reduces p on each token on
-- which it has no raw action (Menhir manual).
pub record IsErrorReduction (s : State) (p : ℕ) : Type 0 where
  pub rank : ℕ
  pub candidate : IsErrorCandidate s p rank
  pub lowest : (q r : ℕ) → IsErrorCandidate s q r → (q ≡ p) ⊎ (rank < r)

-- The action that fills the cell of a token: the chosen action, or, if the cell has no raw action and the state no
-- default, the reduction of `%on_error_reduce`.
abbrev pub FillsCell : Mode → State → ℕ → Action → Type 0
FillsCell mode s z a = IsChosenOn s (Token z) a ⊎ (((b : Action) → Raw s (Token z) b → ⊥) × ((p : ℕ) → HasDefault mode s p → ⊥) × (p : ℕ) × (a ≡ Reduce p) × IsErrorReduction s p)

-- The cell of a token: the action that fills it, or else a refusal.
abbrev pub IsCell : Mode → State → ℕ → Action → Type 0
IsCell mode s z a = FillsCell mode s z a ⊎ ((a ≡ Refuse) × ((b : Action) → FillsCell mode s z b → ⊥))

-- The core item of an item: its production and dot.
abbrev pub core_item_of : KernelItem → Place
core_item_of item = record { production = item.production; dot = item.dot }

-- The state of the table that belongs to this state of the automaton.
pub record IsResolved (mode : Mode) (s : State) (kernel : Kernel) (parts : StateParts) : Type 0 where
  pub width : length parts.cells ≡ length s.grammar.tokens
  pub cells : (z : ℕ) → z < length s.grammar.tokens → IsCell mode s z (slice_index_or parts.cells z Refuse)
  pub fallback : IsFallback mode s parts.fallback
  pub edges : parts.edges ≡ s.edges
  pub core : parts.core ≡ map core_item_of kernel.items

-- The states of the table, each resolved by itself.
pub record AreResolved (g : Grammar) (a : Automaton) (mode : Mode) (states : List StateParts) : Type 0 where
  pub count : length states ≡ length a.kernels
  pub each : (s : ℕ) → s < length a.kernels → IsResolved mode (state_of g a s) (kernel_at a s) (slice_index_or states s no_state)

-- The table of an automaton.
pub record IsTableOf (g : Grammar) (a : Automaton) (mode : Mode) (t : TableData) : Type 0 where
  pub grammar : t.grammar ≡ plain_of g
  pub costs : t.costs ≡ costs_of g.tokens
  pub states : AreResolved g a mode t.states

-- A state has a conflict of this kind on a look.
abbrev pub HasConflictOn : State → Look → ConflictKind → Type 0
HasConflictOn s look Solved = IsConflict (Raw s look) × (IsUnsolved (comparison_on s.grammar look) (Raw s look) → ⊥)
HasConflictOn s look Unsolved = IsUnsolved (comparison_on s.grammar look) (Raw s look)
HasConflictOn s look Stream = (look ≡ End) × IsStreamConflict s
