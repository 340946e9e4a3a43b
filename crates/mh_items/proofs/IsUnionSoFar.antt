-- Lemmas on the union of two rising lists of items, item by item.
use Rattle.std.proofs.Common.{◌≡◌, ℕ, ◌+◌, ◌<◌, ◌≤◌, ◌⊎◌, List, [], ◌∷◌, ◌++◌, Some, length, get_or, refl, sym, ap, ◌∙◌, arith, inl, inr}
use Rattle.std.specs.List.{slice_get, Contains}
use Rattle.std.proofs.lemmas.Bool.{cases_eq, cases_lt}
use Rattle.std.proofs.lemmas.List.Elements.{Contains-push, Contains-push_cases, Contains-append_left}
use Rattle.std.proofs.lemmas.Option.{slice_get_within, slice_get-get_or}
use Rattle.mh_grammar.specs.declared.types.Look.{Look}
use Rattle.mh_grammar.specs.Plain.{PlainGrammar}
use Rattle.mh_items_kernels.specs.KernelTypes.{KernelItem, Kernel}
use Rattle.mh_items_kernels.specs.Kernels.{Holds, IsItemList, IsKernelItem, IsItemBefore, HasLooksOfBoth}
use Rattle.mh_items.specs.code.ItemUnion.{IsItemUnion, IsUnionSoFar}
use Rattle.mh_grammar.proofs.Lists.{get_unique, contains_at, at_contains, recursion_at, rising_at}
use Rattle.mh_items_kernels.proofs.UniqueItemList.{before_trans}
use Rattle.mh_items_kernels.proofs.AppendedItem.{kernel_push}

abbrev of_items : List KernelItem → Kernel
of_items items = record { items = items }

pub holds_push : (items : List KernelItem) (z : KernelItem) (p d : ℕ) (b : Look) → Holds (of_items items) p d b → Holds (of_items (items ++ z ∷ [])) p d b
holds_push items z p d b h = (h.0, Contains-append_left items (z ∷ []) h.0 h.1, h.2, h.3, h.4)

pub holds_cases : (items : List KernelItem) (z : KernelItem) (p d : ℕ) (b : Look) → Holds (of_items (items ++ z ∷ [])) p d b → Holds (of_items items) p d b ⊎ ((z.production ≡ p) × (z.dot ≡ d) × Contains z.looks b)
holds_cases items z p d b h = elim (Contains-push_cases items z h.0 h.1) [
  | inl c ↦ inl (h.0, c, h.2, h.3, h.4)
  | inr e ↦ inr (ap (λ (k : KernelItem). k.production) e ∙ h.2, ap (λ (k : KernelItem). k.dot) e ∙ h.3, rw (← e) at h.4)
]

pub holds_last : (items : List KernelItem) (z : KernelItem) (b : Look) → Contains z.looks b → Holds (of_items (items ++ z ∷ [])) z.production z.dot b
holds_last items z b c = (z, Contains-push items z, refl, refl, c)

pub IsUnionSoFar-start : (g : PlainGrammar) (left right : List KernelItem) → IsUnionSoFar g left 0 right 0 []
IsUnionSoFar-start g left right = record {
  in_left = omega arith;
  in_right = omega arith;
  kernel = record { items = tt; rising = tt };
  before_left = λ x y k c. absurd (let l = c.1 in omega arith);
  before_right = λ x y k c. absurd (let l = c.1 in omega arith);
  origin = λ p d b h. absurd (let l = h.1.1 in omega arith);
  has_left = λ y k b l. absurd (omega arith);
  has_right = λ y k b l. absurd (omega arith);
}

-- The invariant holds after the next item of the union is appended.
module _ (g : PlainGrammar) (left right items : List KernelItem) (i j i' j' : ℕ) (z : KernelItem) (h : IsUnionSoFar g left i right j items) (il : i ≤ i') (jl : j ≤ j') (short_left : i' ≤ length left) (short_right : j' ≤ length right)
    (valid : IsKernelItem g z) (before : (x : KernelItem) → Contains items x → IsItemBefore x z)
    (over_left : (y : KernelItem) (k : ℕ) → i' ≤ k → slice_get left k ≡ Some y → IsItemBefore z y)
    (over_right : (y : KernelItem) (k : ℕ) → j' ≤ k → slice_get right k ≡ Some y → IsItemBefore z y)
    (from : (b : Look) → Contains z.looks b → Holds (of_items left) z.production z.dot b ⊎ Holds (of_items right) z.production z.dot b)
    (into_left : (y : KernelItem) (k : ℕ) (b : Look) → i ≤ k → k < i' → slice_get left k ≡ Some y → Contains y.looks b → (z.production ≡ y.production) × (z.dot ≡ y.dot) × Contains z.looks b)
    (into_right : (y : KernelItem) (k : ℕ) (b : Look) → j ≤ k → k < j' → slice_get right k ≡ Some y → Contains y.looks b → (z.production ≡ y.production) × (z.dot ≡ y.dot) × Contains z.looks b) where
  has : (y : KernelItem) (b : Look) → (z.production ≡ y.production) × (z.dot ≡ y.dot) × Contains z.looks b → Holds (of_items (items ++ z ∷ [])) y.production y.dot b
  has y b e = (z, Contains-push items z, e.0, e.1, e.2)

  pub IsUnionSoFar-push : IsUnionSoFar g left i' right j' (items ++ z ∷ [])
  IsUnionSoFar-push = record {
    in_left = short_left;
    in_right = short_right;
    kernel = kernel_push g items z h.kernel valid before;
    before_left = λ x y k c l at. elim (Contains-push_cases items z x c) [ inl d ↦ h.before_left x y k d (omega arith) at | inr e ↦ (let o = over_left y k l at in rw e at o) ];
    before_right = λ x y k c l at. elim (Contains-push_cases items z x c) [ inl d ↦ h.before_right x y k d (omega arith) at | inr e ↦ (let o = over_right y k l at in rw e at o) ];
    origin = λ p d b f. elim (holds_cases items z p d b f) [ inl k ↦ h.origin p d b k | inr k ↦ (let o = from b k.2 in rw (k.0, k.1) at o) ];
    has_left = λ y k b l at c. elim (cases_lt k i) [
      | inl before ↦ holds_push items z y.production y.dot b (h.has_left y k b before at c)
      | inr o ↦ has y b (into_left y k b o l at c)
    ];
    has_right = λ y k b l at c. elim (cases_lt k j) [
      | inl before ↦ holds_push items z y.production y.dot b (h.has_right y k b before at c)
      | inr o ↦ has y b (into_right y k b o l at c)
    ];
  }

module _ (g : PlainGrammar) (left right items : List KernelItem) (i j : ℕ) (lk : IsItemList g (of_items left)) (rk : IsItemList g (of_items right)) (h : IsUnionSoFar g left i right j items) where
  pub IsUnionSoFar-left : (x : KernelItem) → slice_get left i ≡ Some x → ((y : KernelItem) → slice_get right j ≡ Some y → IsItemBefore x y) → IsUnionSoFar g left (i + 1) right j (items ++ x ∷ [])
  IsUnionSoFar-left x at first = IsUnionSoFar-push g left right items i j (i + 1) j x h (omega arith) (omega arith) (let l = slice_get_within left i x at in omega arith) h.in_right
      (recursion_at (IsKernelItem g) left lk.items i x at) (λ w c. h.before_left w x i c (omega arith) at)
      (λ y k l e. rising_at IsItemBefore left lk.rising i k x y (omega arith) at e)
      (λ y k l e. elim (cases_eq k j) [
        | inl same ↦ first y (rw same at e)
        | inr o ↦ (let w = slice_get_within right k y e in let short : j < length right = omega arith in
            let next = get_or right j x in let here = slice_get-get_or right j x short in
            before_trans x next y (first next here) (rising_at IsItemBefore right rk.rising j k next y (omega arith) here e))
      ])
      (λ b c. inl (x, contains_at left i x at, refl, refl, c))
      (λ y k b l l' e c. (let same : k ≡ i = omega arith in let one : y ≡ x = get_unique left i y x (rw same at e) at in
      (ap (λ (z : KernelItem). z.production) (sym one), ap (λ (z : KernelItem). z.dot) (sym one), rw one at c)))
      (λ y k b l l' e c. absurd (omega arith))

  pub IsUnionSoFar-right : (y : KernelItem) → slice_get right j ≡ Some y → ((x : KernelItem) → slice_get left i ≡ Some x → IsItemBefore y x) → IsUnionSoFar g left i right (j + 1) (items ++ y ∷ [])
  IsUnionSoFar-right x at first = IsUnionSoFar-push g left right items i j i (j + 1) x h (omega arith) (omega arith) h.in_left (let l = slice_get_within right j x at in omega arith)
      (recursion_at (IsKernelItem g) right rk.items j x at) (λ w c. h.before_right w x j c (omega arith) at)
      (λ y k l e. elim (cases_eq k i) [
        | inl same ↦ first y (rw same at e)
        | inr o ↦ (let w = slice_get_within left k y e in let short : i < length left = omega arith in
            let next = get_or left i x in let here = slice_get-get_or left i x short in
            before_trans x next y (first next here) (rising_at IsItemBefore left lk.rising i k next y (omega arith) here e))
      ])
      (λ y k l e. rising_at IsItemBefore right rk.rising j k x y (omega arith) at e)
      (λ b c. inr (x, contains_at right j x at, refl, refl, c))
      (λ y k b l l' e c. absurd (omega arith))
      (λ y k b l l' e c. (let same : k ≡ j = omega arith in let one : y ≡ x = get_unique right j y x (rw same at e) at in
      (ap (λ (z : KernelItem). z.production) (sym one), ap (λ (z : KernelItem). z.dot) (sym one), rw one at c)))

  place_before : (x y z : KernelItem) → x.production ≡ y.production → x.dot ≡ y.dot → IsItemBefore y z → IsItemBefore x z
  place_before x y z p d (inl l) = inl (omega arith)
  place_before x y z p d (inr l) = let e = l.1 in inr (p ∙ l.0, omega arith)

  before_place : (x y z : KernelItem) → y.production ≡ z.production → y.dot ≡ z.dot → IsItemBefore x y → IsItemBefore x z
  before_place x y z p d (inl l) = inl (omega arith)
  before_place x y z p d (inr l) = let e = l.1 in inr (l.0 ∙ p, omega arith)

  pub IsUnionSoFar-both : (x y z : KernelItem) → slice_get left i ≡ Some x → slice_get right j ≡ Some y → x.production ≡ y.production → x.dot ≡ y.dot → IsKernelItem g z → HasLooksOfBoth x y z
      → IsUnionSoFar g left (i + 1) right (j + 1) (items ++ z ∷ [])
  IsUnionSoFar-both x y z at at' p d valid joined = IsUnionSoFar-push g left right items i j (i + 1) (j + 1) z h (omega arith) (omega arith) (let l = slice_get_within left i x at in omega arith) (let l = slice_get_within right j y at' in omega arith) valid
      (λ w c. before_place w x z (sym joined.production) (sym joined.dot) (h.before_left w x i c (omega arith) at))
      (λ w k l e. place_before z x w joined.production joined.dot (rising_at IsItemBefore left lk.rising i k x w (omega arith) at e))
      (λ w k l e. place_before z y w (joined.production ∙ p) (joined.dot ∙ d) (rising_at IsItemBefore right rk.rising j k y w (omega arith) at' e))
      (λ b c. elim ((joined.looks b).0 c) [
        | inl k ↦ inl (x, contains_at left i x at, sym joined.production, sym joined.dot, k)
        | inr k ↦ inr (y, contains_at right j y at', sym (joined.production ∙ p), sym (joined.dot ∙ d), k)
      ])
      (λ w k b l l' e c. (let same : k ≡ i = omega arith in let one : w ≡ x = get_unique left i w x (rw same at e) at in
      (joined.production ∙ ap (λ (z : KernelItem). z.production) (sym one), joined.dot ∙ ap (λ (z : KernelItem). z.dot) (sym one), (joined.looks b).1 (inl (rw one at c)))))
      (λ w k b l l' e c. (let same : k ≡ j = omega arith in let one : w ≡ y = get_unique right j w y (rw same at e) at' in
      (joined.production ∙ p ∙ ap (λ (z : KernelItem). z.production) (sym one), joined.dot ∙ d ∙ ap (λ (z : KernelItem). z.dot) (sym one), (joined.looks b).1 (inr (rw one at c)))))

pub union_of : (g : PlainGrammar) (left right items : List KernelItem) (i j : ℕ) → length left ≤ i → length right ≤ j → IsUnionSoFar g left i right j items → IsItemUnion g left right items
union_of g left right items i j il jl h = record {
  kernel = h.kernel;
  holds = λ p d b. (
    h.origin p d b,
    λ k. elim k [
      | inl x ↦ (let at = at_contains left x.0 x.1 in rw (x.2, x.3) at (h.has_left x.0 at.0 b (omega (arith, slice_get_within left at.0 x.0 at.1)) at.1 x.4))
      | inr x ↦ (let at = at_contains right x.0 x.1 in rw (x.2, x.3) at (h.has_right x.0 at.0 b (omega (arith, slice_get_within right at.0 x.0 at.1)) at.1 x.4))
    ],
  );
}
