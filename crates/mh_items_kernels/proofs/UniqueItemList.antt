-- Proves that a kernel is the only list for its set of items.
use Rattle.std.proofs.Common.{◌≡◌, ℕ, List, [], ◌∷◌, refl, sym, ap, ◌∙◌, arith, inl, inr}
use Rattle.std.specs.List.{AllByRecursion, Contains}
use Rattle.std.proofs.lemmas.Bool.{cases_order}
use Rattle.mh_grammar.specs.declared.types.Look.{Look}
use Rattle.mh_grammar.specs.Plain.{PlainGrammar}
use Rattle.mh_grammar.specs.Edges.{IsRising, IsLookBefore}
use Rattle.mh_grammar.specs.ItemSets.{AreSameItems}
use Rattle.mh_items_kernels.specs.KernelTypes.{KernelItem}
use Rattle.mh_items_kernels.specs.KernelTypes.{Kernel}
use Rattle.mh_items_kernels.specs.Kernels.{Holds, IsItemList, IsKernelItem, IsItemBefore}
use Rattle.mh_grammar.proofs.Lists.{contains_here, contains_there, contains_cases, recursion_contains, rising_same, some_item}
use Rattle.mh_grammar.proofs.EdgeOrder.{look_order_asymmetric}

-- No item is before an item with the same production and dot.
pub before_not_same_place : (x y : KernelItem) → IsItemBefore x y → x.production ≡ y.production → x.dot ≡ y.dot → ⊥
before_not_same_place x y (inl h) e f = omega arith
before_not_same_place x y (inr h) e f = let l = h.1 in omega arith

pub before_asymmetric : (x y : KernelItem) → IsItemBefore x y → IsItemBefore y x → ⊥
before_asymmetric x y (inl h) (inl k) = omega arith
before_asymmetric x y (inl h) (inr k) = let l = k.0 in omega arith
before_asymmetric x y (inr h) (inl k) = let l = h.0 in omega arith
before_asymmetric x y (inr h) (inr k) = let l = h.1 in let m = k.1 in omega arith

pub before_trans : (x y z : KernelItem) → IsItemBefore x y → IsItemBefore y z → IsItemBefore x z
before_trans x y z (inl h) (inl k) = inl (omega arith)
before_trans x y z (inl h) (inr k) = let e = k.0 in inl (omega arith)
before_trans x y z (inr h) (inl k) = let e = h.0 in inl (omega arith)
before_trans x y z (inr h) (inr k) = let e = h.1 in let f = k.1 in inr (h.0 ∙ k.0, omega arith)

-- Two items of which neither is before the other have the same production and dot.
pub same_place_if_unordered : (x y : KernelItem) → (IsItemBefore x y → ⊥) → (IsItemBefore y x → ⊥) → (x.production ≡ y.production) × (x.dot ≡ y.dot)
same_place_if_unordered x y h k = elim (cases_order x.production y.production) [
  | inl e ↦ elim (cases_order x.dot y.dot) [
    | inl f ↦ (e, f)
    | inr (inl l) ↦ absurd (h (inr (e, l)))
    | inr (inr l) ↦ absurd (k (inr (sym e, l)))
  ]
  | inr (inl l) ↦ absurd (h (inl l))
  | inr (inr l) ↦ absurd (k (inl l))
]

abbrev pub of_items : List KernelItem → Kernel
of_items items = record { items = items }

module _ (g : PlainGrammar) where
  -- If two lists hold the same items, the head of one is not before the head of the other.
  not_before : (x : KernelItem) (xs : List KernelItem) (y : KernelItem) (ys : List KernelItem) → IsKernelItem g x → AllByRecursion (IsItemBefore y) ys
      → ((p d : ℕ) (a : Look) → Holds (of_items (x ∷ xs)) p d a → Holds (of_items (y ∷ ys)) p d a) → IsItemBefore x y → ⊥
  not_before x xs y ys i b s h =
      let a = some_item x.looks i.some in
      let f = s x.production x.dot a.0 (x, contains_here x xs, refl, refl, a.1) in
      let z = f.0 in
      elim (contains_cases y ys z f.1) [
        | inl e ↦ (let p : y.production ≡ x.production = ap (λ (k : KernelItem). k.production) e ∙ f.2 in let q : y.dot ≡ x.dot = ap (λ (k : KernelItem). k.dot) e ∙ f.3 in before_not_same_place x y h (sym p) (sym q))
        | inr c ↦ before_not_same_place x z (before_trans x y z h (recursion_contains (IsItemBefore y) ys b z c)) (sym f.2) (sym f.3)
      ]

  -- If the heads have the same production and dot, each look of one head is a look of the other.
  head_looks : (x : KernelItem) (xs : List KernelItem) (y : KernelItem) (ys : List KernelItem) → x.production ≡ y.production → x.dot ≡ y.dot → AllByRecursion (IsItemBefore y) ys
      → ((p d : ℕ) (a : Look) → Holds (of_items (x ∷ xs)) p d a → Holds (of_items (y ∷ ys)) p d a) → (a : Look) → Contains x.looks a → Contains y.looks a
  head_looks x xs y ys p q b s a c =
      let f = s x.production x.dot a (x, contains_here x xs, refl, refl, c) in
      elim (contains_cases y ys f.0 f.1) [
        | inl e ↦ rw (← e) at f.4
        | inr d ↦ absurd (before_not_same_place y f.0 (recursion_contains (IsItemBefore y) ys b f.0 d) (sym p ∙ sym f.2) (sym q ∙ sym f.3))
      ]

  -- If the heads have the same production and dot, the tails hold the same items.
  tails : (x : KernelItem) (xs : List KernelItem) (y : KernelItem) (ys : List KernelItem) → x.production ≡ y.production → x.dot ≡ y.dot → AllByRecursion (IsItemBefore x) xs
      → ((p d : ℕ) (a : Look) → Holds (of_items (x ∷ xs)) p d a → Holds (of_items (y ∷ ys)) p d a) → (p d : ℕ) (a : Look) → Holds (of_items xs) p d a → Holds (of_items ys) p d a
  tails x xs y ys p q b s p' d' a h =
      let f = s p' d' a (h.0, contains_there x xs h.0 h.1, h.2, h.3, h.4) in
      elim (contains_cases y ys f.0 f.1) [
        | inl e ↦ absurd (before_not_same_place x h.0 (recursion_contains (IsItemBefore x) xs b h.0 h.1)
            (p ∙ ap (λ (k : KernelItem). k.production) e ∙ f.2 ∙ sym h.2) (q ∙ ap (λ (k : KernelItem). k.dot) e ∙ f.3 ∙ sym h.3))
        | inr c ↦ (f.0, c, f.2, f.3, f.4)
      ]

  pub items_same : (xs ys : List KernelItem) → AllByRecursion (IsKernelItem g) xs → AllByRecursion (IsKernelItem g) ys → IsRising IsItemBefore xs → IsRising IsItemBefore ys
      → AreSameItems (Holds (of_items xs)) (Holds (of_items ys)) → xs ≡ ys
  items_same [] [] i j h k s = refl
  items_same [] (y ∷ ys) i j h k s = absurd (let a = some_item y.looks j.0.some in let f = (s y.production y.dot a.0).1 (y, contains_here y ys, refl, refl, a.1) in omega (arith, f.1.1))
  items_same (x ∷ xs) [] i j h k s = absurd (let a = some_item x.looks i.0.some in let f = (s x.production x.dot a.0).0 (x, contains_here x xs, refl, refl, a.1) in omega (arith, f.1.1))
  items_same (x ∷ xs) (y ∷ ys) i j h k s =
      let over = λ (p d : ℕ) (a : Look). (s p d a).0 in
      let back = λ (p d : ℕ) (a : Look). (s p d a).1 in
      let place = same_place_if_unordered x y (not_before x xs y ys i.0 k.0 over) (not_before y ys x xs j.0 h.0 back) in
      let looks : x.looks ≡ y.looks = rising_same IsLookBefore look_order_asymmetric x.looks y.looks i.0.rising j.0.rising
      (λ a. (head_looks x xs y ys place.0 place.1 k.0 over a, head_looks y ys x xs (sym place.0) (sym place.1) h.0 back a)) in
      let one : x ≡ y = λ t. record { production = place.0 t; dot = place.1 t; looks = looks t } in
      let rest : xs ≡ ys = items_same xs ys i.1 j.1 h.1 k.1
      (λ p d a. (tails x xs y ys place.0 place.1 h.0 over p d a, tails y ys x xs (sym place.0) (sym place.1) k.0 back p d a)) in
      cc

pub kernel_same : (g : PlainGrammar) (left right : Kernel) → IsItemList g left → IsItemList g right → AreSameItems (Holds left) (Holds right) → left ≡ right
kernel_same g left right h k s = let items = items_same g left.items right.items h.items k.items h.rising k.rising s in λ t. record { items = items t }
