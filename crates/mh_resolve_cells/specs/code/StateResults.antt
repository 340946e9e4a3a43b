-- The results of the code for a whole state.
use Rattle.std.specs.Prelude.{◌≡◌, ◌<◌, ◌↔◌, ℕ, Bool, true, false, nat_lt, if◌then◌else◌, List, Option, Some, None, length, MatchOption, IsTrue}
use Rattle.mh_grammar.specs.declared.types.Look.{Look}
use Rattle.mh_grammar.specs.declared.types.Look.TheVariants.{End}
use Rattle.mh_tables_core.specs.declared.parts.Action.{Action}
use Rattle.mh_tables_core.specs.declared.parts.Action.TheVariants.{Reduce, Refuse}
use Rattle.mh_tables_core.specs.declared.parts.Fallback.{Fallback}
use Rattle.mh_tables_core.specs.declared.parts.Fallback.TheVariants as fallbacks
use Rattle.mh_grammar.specs.declared.edges.Edge.{Edge}
use Rattle.mh_grammar.specs.Plain.{IsLookBelow}
use Rattle.mh_grammar.specs.Edges.{find_edge}
use Rattle.mh_grammar.specs.declared.types.Symbol.TheVariants.{T}
use Rattle.mh_resolve_cells.specs.declared.cells.Cell.{Cell}
use Rattle.mh_resolve_cells.specs.States.{State, Raw, IsStreamConflict, IsErrorReduction}
use Rattle.mh_resolve_cells.specs.code.CellRows.{AreCells, IsDecidedOn}

-- The action at the end of the stream, which an end-of-stream conflict drops.
abbrev pub kept_of : Bool → Action → Action
kept_of true last = Refuse
kept_of false last = last

-- The reduction that fills cells without raw actions; there is none if the state has a default.
abbrev pub IsFiller : State → Option ℕ → Option ℕ → Type 0
IsFiller s (Some p) filler = filler ≡ None
IsFiller s None filler = MatchOption filler ((p : ℕ) → IsErrorReduction s p → ⊥) (IsErrorReduction s)

-- The action that fills cells without raw actions.
abbrev pub filling : Option ℕ → Action
filling None = Refuse
filling (Some p) = Reduce p

-- The action of a cell after filling.
abbrev pub filled_with : Option ℕ → Cell → Action
filled_with filler cell = if cell.raw then cell.action else filling filler

-- The default of a state that reduces the production by default: acceptance for a start production.
abbrev pub fallback_for : ℕ → Option ℕ → Option Fallback
fallback_for starts None = None
fallback_for starts (Some p) = if nat_lt p starts then Some fallbacks.Accept else Some (fallbacks.Reduce p)

-- Each raw action is on a look of the grammar.
pub record AreLooksInRange (s : State) : Type 0 where
  pub known : (look : Look) (a : Action) → Raw s look a → IsLookBelow (length s.grammar.tokens) look

-- The row is correct for the state.
pub record IsCellRow (s : State) (row : List Cell) (end : Cell) (conflict : Bool) : Type 0 where
  pub known : AreLooksInRange s
  pub cells : AreCells s (length s.grammar.tokens) row
  pub last : IsDecidedOn s End end
  pub stream : IsTrue conflict ↔ IsStreamConflict s

-- The edges on tokens are on tokens of the grammar.
abbrev pub AreEdgesKnown : ℕ → List Edge → Type 0
AreEdgesKnown tokens edges = (z j : ℕ) → find_edge edges (T z) ≡ Some j → z < tokens
