-- Lemmas on the order of two items.
use Rattle.std.proofs.Common.{◌≡◌, ℕ, ◌<◌, ◌≤◌, Bool, true, false, ltb, cond, List, Some, length, refl, arith, inl, inr}
use Rattle.std.specs.List.{slice_get}
use Rattle.std.proofs.lemmas.Bool.{ltb-true, ltb-false}
use Rattle.std.proofs.lemmas.Option.{slice_get_within}
use Rattle.std.specs.declared.cmp.Ordering.{Ordering}
use Rattle.std.specs.declared.cmp.Ordering.TheVariants.{Less, Equal, Greater}
use Rattle.mh_items_kernels.specs.KernelTypes.{KernelItem}
use Rattle.mh_items_kernels.specs.Kernels.{IsItemBefore}
use Rattle.mh_items.specs.code.ItemUnion.{HasNextItem, item_order}
use Rattle.mh_grammar.proofs.Lists.{get_unique}

-- The meaning of the result of comparing two items, in terms of their productions and dots.
abbrev pub IsOrder : KernelItem → KernelItem → Ordering → Type 0
IsOrder x y Less = IsItemBefore x y
IsOrder x y Greater = IsItemBefore y x
IsOrder x y Equal = (x.production ≡ y.production) × (x.dot ≡ y.dot)

pub item_order_is : (x y : KernelItem) → IsOrder x y (item_order x y)
item_order_is x y = go (ltb x.production y.production) (ltb y.production x.production) (ltb x.dot y.dot) (ltb y.dot x.dot) refl refl refl refl
  where
    go : (a b c d : Bool) → ltb x.production y.production ≡ a → ltb y.production x.production ≡ b → ltb x.dot y.dot ≡ c → ltb y.dot x.dot ≡ d
        → IsOrder x y (cond a Less (cond b Greater (cond c Less (cond d Greater Equal))))
    go true b c d e f g h = inl (ltb-true x.production y.production e)
    go false true c d e f g h = inl (ltb-true y.production x.production f)
    go false false true d e f g h = (let k = ltb-false x.production y.production e in let l = ltb-false y.production x.production f in inr (omega arith, ltb-true x.dot y.dot g))
    go false false false true e f g h = (let k = ltb-false x.production y.production e in let l = ltb-false y.production x.production f in inr (omega arith, ltb-true y.dot x.dot h))
    go false false false false e f g h =
        (let k = ltb-false x.production y.production e in let l = ltb-false y.production x.production f in let m = ltb-false x.dot y.dot g in let n = ltb-false y.dot x.dot h in (omega arith, omega arith))

pub next_of : (left right : List KernelItem) (i j : ℕ) (x y : KernelItem) → slice_get left i ≡ Some x → slice_get right j ≡ Some y → (o : Ordering) → IsOrder x y o → HasNextItem left i right j o
next_of left right i j x y at at' Less h = (slice_get_within left i x at, λ x' y' e e'. rw (get_unique left i x' x e at, get_unique right j y' y e' at') h)
next_of left right i j x y at at' Greater h = (slice_get_within right j y at', λ x' y' e e'. rw (get_unique left i x' x e at, get_unique right j y' y e' at') h)
next_of left right i j x y at at' Equal h = (slice_get_within left i x at, slice_get_within right j y at', λ x' y' e e'. rw (get_unique left i x' x e at, get_unique right j y' y e' at') h)

pub next_is_left : (left right : List KernelItem) (i j : ℕ) → length right ≤ j → i < length left → HasNextItem left i right j Less
next_is_left left right i j far l = (l, λ x y e e'. absurd (let k = slice_get_within right j y e' in omega arith))

pub next_is_right : (left right : List KernelItem) (i j : ℕ) → length left ≤ i → j < length right → HasNextItem left i right j Greater
next_is_right left right i j far l = (l, λ x y e e'. absurd (let k = slice_get_within left i x e in omega arith))
