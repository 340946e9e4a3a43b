-- The effect of one step of the code on the worklist.
use Rattle.std.specs.Prelude.{◌≡◌, ◌<◌, ℕ, List, ◌∷◌, ◌++◌, length, map}
use Rattle.mh_grammar.specs.declared.types.Symbol.{Symbol}
use Rattle.mh_grammar.specs.declared.edges.Edge.{Edge}
use Rattle.mh_grammar.specs.Plain.{PlainGrammar}
use Rattle.mh_grammar.specs.ItemSets.{AreSameItems, Close}
use Rattle.mh_items_kernels.specs.KernelTypes.{Items, Kernel}
use Rattle.mh_items_kernels.specs.Kernels.{Holds, IsItemList}
use Rattle.mh_items.specs.code.AllMoves.{Move, AreMoves}
use Rattle.mh_items_kernels.specs.Collection.{targets_of, edge_symbols}
use Rattle.mh_pager.specs.MergeSteps.{MergeState, PlacesMoves}
use Rattle.mh_pager.specs.declared.worklist.Worklist.{Worklist}

-- The work before state n was taken from the queue.
abbrev pub with_oldest : {W : ℕ} → Worklist W → ℕ → MergeState
with_oldest l n = record { kernels = l.kernels.items; rows = l.rows.items; queue = n ∷ l.queue.states.items }

-- The row has an edge for each symbol, to the state where the move of the closure on this symbol was placed.
pub record IsPlacedRow (g : PlainGrammar) (closed : Items) (symbols : List Symbol) (row : List Edge) (old new : MergeState) : Type 0 where
  pub symbols_are : edge_symbols row ≡ symbols
  pub moves_placed : (k : Kernel) → AreSameItems (Holds closed) (Close g (Holds k)) → PlacesMoves g k symbols (targets_of row) old new

-- The list holds more states than the limit after the moves on some prefix of the symbols were placed.
pub record ExceedsAtPrefix (g : PlainGrammar) (closed : Items) (symbols : List Symbol) (old : MergeState) (limit : ℕ) : Type 0 where
  pub prefix : List Symbol
  pub rest : List Symbol
  pub split : symbols ≡ prefix ++ rest
  pub targets : List ℕ
  pub placed : MergeState
  pub moves_placed : (k : Kernel) → AreSameItems (Holds closed) (Close g (Holds k)) → PlacesMoves g k prefix targets old placed
  pub exceeds : limit < length placed.kernels

-- All moves are placed, for every closed item list that has these moves.
abbrev pub PlacesAllMoves : PlainGrammar → List Move → MergeState → MergeState → List Edge → Type 0
PlacesAllMoves g moves old new row = (closed : Items) → IsItemList g closed → AreMoves g closed moves → IsPlacedRow g closed (map (λ (m : Move). m.symbol) moves) row old new

-- The list exceeds the limit after the moves on some prefix of the symbols are placed, for every closed item list that
-- has these moves.
abbrev pub ExceedsForMoves : PlainGrammar → List Move → MergeState → ℕ → Type 0
ExceedsForMoves g moves old limit = (closed : Items) → IsItemList g closed → AreMoves g closed moves → ExceedsAtPrefix g closed (map (λ (m : Move). m.symbol) moves) old limit
