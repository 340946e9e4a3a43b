-- The states and edges that are found during the construction of the collection.
use Rattle.std.specs.Prelude.{◌≡◌, ◌<◌, ℕ, List, length, map}
use Rattle.std.specs.List.{All, AllZip}
use Rattle.mh_grammar.specs.declared.types.Symbol.{Symbol}
use Rattle.mh_grammar.specs.declared.edges.Edge.{Edge}
use Rattle.mh_grammar.specs.Plain.{PlainGrammar}
use Rattle.mh_grammar.specs.ItemSets.{AreSameItems, Close, PathItems}
use Rattle.mh_grammar.specs.Numbering.{AreDistinct}
use Rattle.mh_grammar.specs.Placed.{AllPlaced}
use Rattle.mh_items_kernels.specs.KernelTypes.{Items, Kernel}
use Rattle.mh_items_kernels.specs.Kernels.{Holds, IsItemList}
use Rattle.mh_items_kernels.specs.code.KernelMoves.{IsMove}
use Rattle.mh_items_kernels.specs.Collection.{HasItem, targets_of}
use Rattle.mh_canon.specs.Canonical.{IsReachedSet}

-- The kernel is a state of the canonical collection.
pub record IsCanonicalState (g : PlainGrammar) (k : Kernel) : Type 0 where
  pub kernel : IsItemList g k
  pub has_item : HasItem (Holds k)
  pub reach : IsReachedSet g (Holds k)

-- The kernels are states of the canonical collection, each once.
pub record AreCanonicalStates (g : PlainGrammar) (kernels : List Kernel) : Type 0 where
  pub each : All (IsCanonicalState g) kernels
  pub distinct : AreDistinct kernels

-- The items are the closure of a state.
pub record IsStateClosure (g : PlainGrammar) (closed : Items) : Type 0 where
  pub start : ℕ
  pub path : List Symbol
  pub known : start < length g.starts
  pub is_list : IsItemList g closed
  pub same : AreSameItems (Holds closed) (Close g (PathItems g start path))

-- The row has an edge for each symbol, to the kernel of the move on this symbol; new kernels were appended in the order
-- of the symbols.
pub record AreStateEdges (g : PlainGrammar) (closed : Items) (symbols : List Symbol) (old new : List Kernel) (row : List Edge) : Type 0 where
  pub moves : List Kernel
  pub each : AllZip (IsMove g closed) symbols moves
  pub symbols_are : map (λ e. e.symbol) row ≡ symbols
  pub placed : AllPlaced old new moves (targets_of row)
