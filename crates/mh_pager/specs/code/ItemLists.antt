-- Pager's condition over lists of items, by index.
use Rattle.std.specs.Prelude.{◌≡◌, ◌⊎◌, ◌<◌, ℕ, List, Some, length, slice_get}
use Rattle.std.specs.List.{Contains}
use Rattle.mh_grammar.specs.declared.types.Look.{Look}
use Rattle.mh_items_kernels.specs.KernelTypes.{KernelItem}

-- The two lists of looks have a look in common.
abbrev pub ShareLook : List Look → List Look → Type 0
ShareLook xs ys = (a : Look) × Contains xs a × Contains ys a

-- Each look of the first list is in the second list.
abbrev pub AreLooksWithin : List Look → List Look → Type 0
AreLooksWithin xs ys = (a : Look) → Contains xs a → Contains ys a

-- The two items have the same production and the same dot.
abbrev pub HaveSameProductionAndDot : KernelItem → KernelItem → Type 0
HaveSameProductionAndDot x y = (x.production ≡ y.production) × (x.dot ≡ y.dot)

-- The relation R holds between the items at each index of the two lists.
abbrev pub AllPairs : (KernelItem → KernelItem → Type 0) → List KernelItem → List KernelItem → Type 0
AllPairs R xs ys = (i : ℕ) (x y : KernelItem) → slice_get xs i ≡ Some x → slice_get ys i ≡ Some y → R x y

-- The two lists have the same productions and dots, in the same order.
abbrev pub HaveSameCoreList : List KernelItem → List KernelItem → Type 0
HaveSameCoreList xs ys = (length xs ≡ length ys) × AllPairs HaveSameProductionAndDot xs ys

-- At each index, the looks of the first list are in the second list.
abbrev pub AreItemLooksWithin : List KernelItem → List KernelItem → Type 0
AreItemLooksWithin xs ys = AllPairs (λ x y. AreLooksWithin x.looks y.looks) xs ys

-- Pager's condition at two indices: a and b are the looks of the two lists at the first index, c and d at the second.
abbrev pub MeetsCondition : List Look → List Look → List Look → List Look → Type 0
MeetsCondition a b c d = ((ShareLook a d → ⊥) × (ShareLook c b → ⊥)) ⊎ (ShareLook a c ⊎ ShareLook b d)

-- Pager's condition on the items of two lists at the indices i and j.
abbrev pub MeetsConditionAt : List KernelItem → List KernelItem → ℕ → ℕ → Type 0
MeetsConditionAt xs ys i j = (a b c d : KernelItem) → slice_get xs i ≡ Some a → slice_get ys i ≡ Some b → slice_get xs j ≡ Some c → slice_get ys j ≡ Some d → MeetsCondition a.looks b.looks c.looks d.looks

-- Pager's condition at the index j and every smaller index.
abbrev pub MeetsConditionBefore : List KernelItem → List KernelItem → ℕ → Type 0
MeetsConditionBefore xs ys j = (i : ℕ) → i < j → MeetsConditionAt xs ys i j

-- Pager's condition at every two indices.
abbrev pub MeetsConditionEverywhere : List KernelItem → List KernelItem → Type 0
MeetsConditionEverywhere xs ys = (j : ℕ) → j < length xs → MeetsConditionBefore xs ys j
