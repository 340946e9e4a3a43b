-- The edges of a state, with the moves for which they were made.
use Rattle.std.specs.Prelude.{◌≡◌, ℕ, List, Some, slice_get}
use Rattle.mh_grammar.specs.declared.edges.Edge.{Edge}
use Rattle.mh_grammar.specs.Plain.{PlainGrammar}
use Rattle.mh_items_kernels.specs.KernelTypes.{Items, Kernel}
use Rattle.mh_items.specs.code.AllMoves.{Move, AreMoves, AreMovesOf, symbols_of}
use Rattle.mh_canon.specs.code.FoundStates.{AreStateEdges}

-- `row` holds the edges of a state with these moves, whatever closure the moves come from. Targets that are new states
-- were appended to the list `old`, which gave `new`.
abbrev pub AreEdgesOfMoves : PlainGrammar → List Move → List Kernel → List Kernel → List Edge → Type 0
AreEdgesOfMoves g moves old new row = (closed : Items) → AreMoves g closed moves → AreStateEdges g closed (symbols_of moves) old new row

-- The row holds the edges of a state.
pub record HasEdges (g : PlainGrammar) (state : ℕ) (old new : List Kernel) (row : List Edge) : Type 0 where
  pub kernel : Kernel
  pub at : slice_get old state ≡ Some kernel
  pub moves : List Move
  pub are_moves : AreMovesOf g kernel moves
  pub edges : AreStateEdges g are_moves.closed (symbols_of moves) old new row
