-- Kernels as lists of items; each set of items has at most one list.
use Rattle.std.specs.Prelude.{◌≡◌, ◌<◌, ◌≤◌, ◌⊎◌, ◌↔◌, ℕ, length}
use Rattle.std.specs.List.{AllByRecursion, Contains}
use Rattle.mh_grammar.specs.declared.types.Look.{Look}
use Rattle.mh_grammar.specs.Plain.{PlainGrammar, production_count, rhs_of, IsLookBelow}
use Rattle.mh_grammar.specs.Edges.{IsRising, IsLookBefore}
use Rattle.mh_grammar.specs.ItemSets.{ItemSet}
use Rattle.mh_items_kernels.specs.KernelTypes.{KernelItem}
use Rattle.mh_items_kernels.specs.KernelTypes.{Kernel}

-- The set of items that a kernel lists.
abbrev pub Holds : Kernel → ItemSet
Holds k p d look = (item : KernelItem) × Contains k.items item × (item.production ≡ p) × (item.dot ≡ d) × Contains item.looks look

-- The pair of the production p and the dot d is in the core of a kernel.
abbrev pub HasCoreItem : Kernel → ℕ → ℕ → Type 0
HasCoreItem k p d = (item : KernelItem) × Contains k.items item × (item.production ≡ p) × (item.dot ≡ d)

-- The order of items: by production, then by dot (this project's own).
abbrev pub IsItemBefore : KernelItem → KernelItem → Type 0
IsItemBefore i j = (i.production < j.production) ⊎ ((i.production ≡ j.production) × (i.dot < j.dot))

-- An item with its looks: its numbers are in the grammar's range, its looks rise, and it has at least one look.
pub record IsKernelItem (g : PlainGrammar) (item : KernelItem) : Type 0 where
  pub production : item.production < production_count g
  pub dot : item.dot ≤ length (rhs_of g item.production)
  pub looks : AllByRecursion (IsLookBelow g.tokens) item.looks
  pub rising : IsRising IsLookBefore item.looks
  pub some : 0 < length item.looks

-- A rising list of items: the only list for its set of items.
pub record IsItemList (g : PlainGrammar) (k : Kernel) : Type 0 where
  pub items : AllByRecursion (IsKernelItem g) k.items
  pub rising : IsRising IsItemBefore k.items

-- The item z has the production and the dot of x, and the looks of both x and y.
pub record HasLooksOfBoth (x y z : KernelItem) : Type 0 where
  pub production : z.production ≡ x.production
  pub dot : z.dot ≡ x.dot
  pub rising : IsRising IsLookBefore z.looks
  pub looks : (b : Look) → Contains z.looks b ↔ (Contains x.looks b ⊎ Contains y.looks b)
