-- The items that a closure adds to a kernel.
use Rattle.std.specs.Prelude.{◌≡◌, ℕ, List}
use Rattle.mh_grammar.specs.declared.types.Look.{Look}
use Rattle.mh_grammar.specs.Plain.{PlainGrammar, IsProductionFor}
use Rattle.mh_items_kernels.specs.KernelTypes.{KernelItem}
use Rattle.mh_items.specs.declared.pending_looks.PendingLooks.{PendingLooks}
use Rattle.mh_items_kernels.specs.Kernels.{Holds}
use Rattle.mh_items.specs.code.PendingLooks.{HasLook}

-- The production belongs to a nonterminal for which a look is recorded.
abbrev pub IsAddedProduction : {W : ℕ} → PlainGrammar → PendingLooks W → ℕ → Type 0
IsAddedProduction g s p = (n : ℕ) × IsProductionFor g n p × ((b : Look) × HasLook s n b)

-- The items are exactly the productions of the nonterminals with looks, each with dot 0 and the looks of its
-- nonterminal.
pub record AreAddedItems {W : ℕ} (g : PlainGrammar) (s : PendingLooks W) (items : List KernelItem) : Type 0 where
  pub first : (p d : ℕ) (b : Look) → Holds (record { items = items }) p d b → d ≡ 0
  pub sound : (p d : ℕ) (b : Look) → Holds (record { items = items }) p d b → (n : ℕ) × IsProductionFor g n p × HasLook s n b
  pub complete : (p n : ℕ) (b : Look) → IsProductionFor g n p → HasLook s n b → Holds (record { items = items }) p 0 b
