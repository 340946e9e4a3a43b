-- Weak compatibility of two item sets with one core (Pager 1977), and their join.
use Rattle.std.specs.Prelude.{◌≡◌, ◌⊎◌, ◌↔◌, ℕ, Some, length, slice_get}
use Rattle.mh_grammar.specs.declared.types.Look.{Look}
use Rattle.mh_grammar.specs.Edges.{IsRising}
use Rattle.mh_grammar.specs.ItemSets.{ItemSet}
use Rattle.mh_items_kernels.specs.KernelTypes.{KernelItem, Kernel}
use Rattle.mh_items_kernels.specs.Kernels.{IsItemBefore}

-- The pair of the production p and the dot d is in the core of the item set.
abbrev pub IsInCore : ItemSet → ℕ → ℕ → Type 0
IsInCore I p d = (a : Look) × I p d a

-- The two item sets have the same core.
abbrev pub HaveSameCore : ItemSet → ItemSet → Type 0
HaveSameCore I J = (p d : ℕ) → IsInCore I p d ↔ IsInCore J p d

-- The two kernels have one core: they have the same number of items, the items at one index have the same production
-- and dot, and the items rise.
pub record HaveOneCore (left right : Kernel) : Type 0 where
  pub count : length left.items ≡ length right.items
  pub places : (i : ℕ) (x y : KernelItem) → slice_get left.items i ≡ Some x → slice_get right.items i ≡ Some y → (x.production ≡ y.production) × (x.dot ≡ y.dot)
  pub rising : IsRising IsItemBefore left.items

-- The item set I contains the item set J.
abbrev pub Covers : ItemSet → ItemSet → Type 0
Covers I J = (p d : ℕ) (a : Look) → J p d a → I p d a

-- The item (p, d) of I and the item (q, e) of J have a look in common.
abbrev pub HaveCommonLook : ItemSet → ℕ → ℕ → ItemSet → ℕ → ℕ → Type 0
HaveCommonLook I p d J q e = (a : Look) × I p d a × J q e a

-- Pager's condition (Pager 1977): for every two different items of the core, the looks of the one item in one set and
-- of the other item in the other set are disjoint, or the two items already have a look in common within one of the
-- sets.
abbrev pub AreCompatible : ItemSet → ItemSet → Type 0
AreCompatible I J = (p d q e : ℕ) → (p ≡ q → d ≡ e → ⊥) → ((HaveCommonLook I p d J q e → ⊥) × (HaveCommonLook I q e J p d → ⊥)) ⊎ (HaveCommonLook I p d I q e ⊎ HaveCommonLook J p d J q e)

-- The item set K is the union of I and J.
abbrev pub IsJoin : ItemSet → ItemSet → ItemSet → Type 0
IsJoin I J K = (p d : ℕ) (a : Look) → K p d a ↔ (I p d a ⊎ J p d a)
