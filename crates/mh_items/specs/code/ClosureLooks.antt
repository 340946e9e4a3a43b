-- The nonterminals whose productions a closure adds, each with the looks of the added items.
use Rattle.std.specs.Prelude.{◌≡◌, ◌↔◌, ℕ, suc, List, ◌∷◌, Some, drop, slice_get}
use Rattle.std.specs.List.{Contains}
use Rattle.mh_grammar.specs.declared.types.Symbol.{Symbol}
use Rattle.mh_grammar.specs.declared.types.Symbol.TheVariants.{N}
use Rattle.mh_grammar.specs.declared.types.Look.{Look}
use Rattle.mh_grammar.specs.Plain.{PlainGrammar, rhs_of}
use Rattle.mh_grammar.specs.ItemSets.{ItemSet, Close, MayBegin}
use Rattle.mh_items_kernels.specs.KernelTypes.{KernelItem, Kernel}
use Rattle.mh_items.specs.declared.pending_looks.PendingLooks.{PendingLooks}
use Rattle.mh_items_kernels.specs.Kernels.{Holds}
use Rattle.mh_items.specs.code.PendingLooks.{HasLook}

-- Some item of the closure has the nonterminal n at its dot, and the look b may follow n there. So the closure adds the
-- productions of n with the look b (Knuth 1965).
pub data IsClosureLook (g : PlainGrammar) (I : ItemSet) (n : ℕ) (b : Look) : Type 0 where
  wants : {p d : ℕ} {y : List Symbol} {a : Look} → Close g I p d a → drop d (rhs_of g p) ≡ N n ∷ y → MayBegin g y a b → IsClosureLook g I n b

-- Some item of the set I itself has the nonterminal n at its dot, and the look b may follow n there.
pub data IsKernelLook (g : PlainGrammar) (I : ItemSet) (n : ℕ) (b : Look) : Type 0 where
  seed : {p d : ℕ} {y : List Symbol} {a : Look} → I p d a → drop d (rhs_of g p) ≡ N n ∷ y → MayBegin g y a b → IsKernelLook g I n b

-- The recorded looks are exactly those that come from the items of the kernel itself.
abbrev pub AreKernelLooks : {W : ℕ} → PlainGrammar → Kernel → PendingLooks W → Type 0
AreKernelLooks g kernel s = (n : ℕ) (b : Look) → HasLook s n b ↔ IsKernelLook g (Holds kernel) n b

-- The recorded looks are exactly those of the items that the closure adds.
pub record AreClosureLooks {W : ℕ} (g : PlainGrammar) (kernel : Kernel) (s : PendingLooks W) : Type 0 where
  pub exact : (n : ℕ) (b : Look) → HasLook s n b ↔ IsClosureLook g (Holds kernel) n b

-- The look may follow the nonterminal at the dot of the item.
pub record MayFollowSymbol (g : PlainGrammar) (item : KernelItem) (b : Look) : Type 0 where
  pub look : Look
  pub held : Contains item.looks look
  pub begins : MayBegin g (drop (suc item.dot) (rhs_of g item.production)) look b

-- The nonterminal n is at the dot of the item, and the look may follow it.
pub record IsItemLook (g : PlainGrammar) (item : KernelItem) (n : ℕ) (b : Look) : Type 0 where
  pub at : slice_get (rhs_of g item.production) item.dot ≡ Some (N n)
  pub follows : MayFollowSymbol g item b

-- Some item of the list has the nonterminal n at its dot, and the look may follow it.
pub record IsLookOfItems (g : PlainGrammar) (items : List KernelItem) (n : ℕ) (b : Look) : Type 0 where
  pub item : KernelItem
  pub among : Contains items item
  pub is : IsItemLook g item n b
