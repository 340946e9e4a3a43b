-- The union of two rising lists of items.
use Rattle.std.specs.Prelude.{◌≡◌, ◌<◌, ◌≤◌, ◌↔◌, ◌⊎◌, ℕ, nat_lt, if◌then◌else◌, List, Some, length, slice_get}
use Rattle.std.specs.List.{Contains}
use Rattle.std.specs.declared.cmp.Ordering.{Ordering}
use Rattle.std.specs.declared.cmp.Ordering.TheVariants.{Less, Equal, Greater}
use Rattle.mh_grammar.specs.declared.types.Look.{Look}
use Rattle.mh_grammar.specs.Plain.{PlainGrammar}
use Rattle.mh_items_kernels.specs.KernelTypes.{KernelItem}
use Rattle.mh_items_kernels.specs.Kernels.{Holds, IsItemList, IsItemBefore}

-- The order of two items: by production, then by dot.
abbrev pub item_order : KernelItem → KernelItem → Ordering
item_order x y = if nat_lt x.production y.production then Less else if nat_lt y.production x.production then Greater else if nat_lt x.dot y.dot then Less else if nat_lt y.dot x.dot then Greater else Equal

-- The list holds exactly the items of both lists.
pub record IsItemUnion (g : PlainGrammar) (left right items : List KernelItem) : Type 0 where
  pub kernel : IsItemList g (record { items = items })
  pub holds : (p d : ℕ) (b : Look) → Holds (record { items = items }) p d b ↔ (Holds (record { items = left }) p d b ⊎ Holds (record { items = right }) p d b)

-- The loop invariant: `items` is the union of the first i items of `left` and the first j items of `right`.
pub record IsUnionSoFar (g : PlainGrammar) (left : List KernelItem) (i : ℕ) (right : List KernelItem) (j : ℕ) (items : List KernelItem) : Type 0 where
  pub in_left : i ≤ length left
  pub in_right : j ≤ length right
  pub kernel : IsItemList g (record { items = items })
  pub before_left : (x y : KernelItem) (k : ℕ) → Contains items x → i ≤ k → slice_get left k ≡ Some y → IsItemBefore x y
  pub before_right : (x y : KernelItem) (k : ℕ) → Contains items x → j ≤ k → slice_get right k ≡ Some y → IsItemBefore x y
  pub origin : (p d : ℕ) (b : Look) → Holds (record { items = items }) p d b → Holds (record { items = left }) p d b ⊎ Holds (record { items = right }) p d b
  pub has_left : (y : KernelItem) (k : ℕ) (b : Look) → k < i → slice_get left k ≡ Some y → Contains y.looks b → Holds (record { items = items }) y.production y.dot b
  pub has_right : (y : KernelItem) (k : ℕ) (b : Look) → k < j → slice_get right k ≡ Some y → Contains y.looks b → Holds (record { items = items }) y.production y.dot b

-- The list that has the next item: `left`, `right`, or both.
abbrev pub HasNextItem : List KernelItem → ℕ → List KernelItem → ℕ → Ordering → Type 0
HasNextItem left i right j Less = (i < length left) × ((x y : KernelItem) → slice_get left i ≡ Some x → slice_get right j ≡ Some y → IsItemBefore x y)
HasNextItem left i right j Greater = (j < length right) × ((x y : KernelItem) → slice_get left i ≡ Some x → slice_get right j ≡ Some y → IsItemBefore y x)
HasNextItem left i right j Equal = (i < length left) × (j < length right) × ((x y : KernelItem) → slice_get left i ≡ Some x → slice_get right j ≡ Some y → (x.production ≡ y.production) × (x.dot ≡ y.dot))
