-- The kernels of moves, and the symbols that have a move.
use Rattle.std.specs.Prelude.{◌≡◌, ℕ, Some, slice_get}
use Rattle.mh_grammar.specs.declared.types.Symbol.{Symbol}
use Rattle.mh_grammar.specs.Plain.{PlainGrammar, rhs_of}
use Rattle.mh_grammar.specs.ItemSets.{AreSameItems, Moved}
use Rattle.mh_items_kernels.specs.KernelTypes.{Items, Kernel}
use Rattle.mh_items_kernels.specs.Kernels.{Holds, HasCoreItem, IsItemList}

-- The symbol X is right after the dot of some item of the kernel.
pub record IsAfterDot (g : PlainGrammar) (k : Kernel) (X : Symbol) : Type 0 where
  pub production : ℕ
  pub dot : ℕ
  pub place : HasCoreItem k production dot
  pub at_dot : slice_get (rhs_of g production) dot ≡ Some X

-- The kernel k lists the move of the closure on X.
pub record IsMove (g : PlainGrammar) (closed : Items) (X : Symbol) (k : Kernel) : Type 0 where
  pub kernel : IsItemList g k
  pub same : AreSameItems (Holds k) (Moved g (Holds closed) X)
