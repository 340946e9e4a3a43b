-- All moves of a closure (Knuth 1965).
use Rattle.std.specs.Prelude.{◌↔◌, List, map}
use Rattle.std.specs.List.{All, Contains}
use Rattle.mh_grammar.specs.declared.types.Symbol.{Symbol}
use Rattle.mh_grammar.specs.declared.types.Look.{Look}
use Rattle.mh_grammar.specs.Plain.{PlainGrammar}
use Rattle.mh_grammar.specs.Edges.{IsRising, IsSymbolBefore}
use Rattle.mh_items_kernels.specs.KernelTypes.{Items, Kernel}
use Rattle.mh_grammar.specs.ItemSets.{AreSameItems, Close}
use Rattle.mh_items_kernels.specs.Kernels.{Holds, IsItemList}
use Rattle.mh_items_kernels.specs.code.KernelMoves.{IsAfterDot, IsMove}
use Rattle.mh_items.specs.declared.all_moves.MoveWith.{MoveWith}

-- A move, with its lookahead sets as rising lists.
abbrev pub Move : Type 0
Move = MoveWith (List Look)

abbrev pub symbols_of : List Move → List Symbol
symbols_of moves = map (λ (m : Move). m.symbol) moves

-- The list holds one move for each symbol after a dot of the closure, in the order of the symbols.
pub record AreMoves (g : PlainGrammar) (closed : Items) (moves : List Move) : Type 0 where
  pub rising : IsRising IsSymbolBefore (symbols_of moves)
  pub exact : (X : Symbol) → Contains (symbols_of moves) X ↔ IsAfterDot g closed X
  pub each : All (λ (m : Move). IsMove g closed m.symbol m.kernel) moves

-- The moves of a kernel, through the list of the items of its closure.
pub record AreMovesOf (g : PlainGrammar) (kernel : Kernel) (moves : List Move) : Type 0 where
  pub closed : Kernel
  pub valid : IsItemList g closed
  pub same : AreSameItems (Holds closed) (Close g (Holds kernel))
  pub are : AreMoves g closed moves
