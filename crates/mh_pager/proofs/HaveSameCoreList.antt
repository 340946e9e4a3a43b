-- Lemmas that relate tests on two lists of items (same cores, looks contained, weak compatibility) to the same
-- properties of the item sets that the lists represent.
use Rattle.std.proofs.Common.{◌≡◌, ◌⊎◌, ◌<◌, ℕ, zero, suc, List, [], ◌∷◌, Some, None, map, length, refl, sym, ap, ◌∙◌, arith, inl, inr}
use Rattle.std.specs.List.{slice_get, Contains, AllByRecursion}
use Rattle.std.proofs.lemmas.Bool.{cases_lt, cases_eq}
use Rattle.std.proofs.lemmas.List.{length-map}
use Rattle.std.proofs.lemmas.Option.{slice_get_within}
use Rattle.mh_grammar.specs.declared.types.Look.{Look}
use Rattle.mh_grammar.specs.Plain.{PlainGrammar}
use Rattle.mh_grammar.specs.Edges.{IsRising}
use Rattle.mh_grammar.proofs.Lists.{contains_at, at_contains, recursion_at, rising_at, rising_same, get_within, some_item}
use Rattle.mh_items_kernels.specs.KernelTypes.{KernelItem, Kernel}
use Rattle.mh_items_kernels.specs.Kernels.{Holds, IsKernelItem, IsItemList, IsItemBefore}
use Rattle.mh_items_kernels.proofs.UniqueItemList.{before_not_same_place, before_asymmetric}
use Rattle.mh_pager.specs.WeakCompatibility.{IsInCore, HaveSameCore, HaveOneCore, Covers, HaveCommonLook, AreCompatible}
use Rattle.mh_pager.specs.code.Cores.{core_item}
use Rattle.mh_pager.specs.code.ItemLists.{HaveSameCoreList, AreItemLooksWithin, ShareLook, MeetsCondition, MeetsConditionEverywhere}

-- The item at index i of the kernel has the production p and the dot d.
pub record IsItem (k : Kernel) (p d i : ℕ) (x : KernelItem) : Type 0 where
  pub at : slice_get k.items i ≡ Some x
  pub production : x.production ≡ p
  pub dot : x.dot ≡ d

pub item_that_holds : (k : Kernel) (p d : ℕ) (a : Look) → Holds k p d a → (i : ℕ) × (x : KernelItem) × IsItem k p d i x × Contains x.looks a
item_that_holds k p d a h =
    let at = at_contains k.items h.0 h.1 in
    (at.0, h.0, record { at = at.1; production = h.2; dot = h.3 }, h.4)

pub holds_by_item : (k : Kernel) (p d i : ℕ) (x : KernelItem) (a : Look) → IsItem k p d i x → Contains x.looks a → Holds k p d a
holds_by_item k p d i x a is c = (x, contains_at k.items i x is.at, is.production, is.dot, c)

-- A kernel has at most one item with a given production and dot.
abbrev pub AreItemsUnique : Kernel → Type 0
AreItemsUnique k = (p d i j : ℕ) (x y : KernelItem) → IsItem k p d i x → IsItem k p d j y → (i ≡ j) × (x ≡ y)

pub rising_is_unique : (k : Kernel) → IsRising IsItemBefore k.items → AreItemsUnique k
rising_is_unique k rising p d i j x y a b = (place, same)
  where
    never : (m n : ℕ) (u v : KernelItem) → m < n → IsItem k p d m u → IsItem k p d n v → ⊥
    never m n u v l s t = before_not_same_place u v (rising_at IsItemBefore k.items rising m n u v l s.at t.at) (s.production ∙ sym t.production) (s.dot ∙ sym t.dot)

    place : i ≡ j
    place = elim (cases_lt i j) [
      | inl l ↦ absurd (never i j x y l a b)
      | inr l ↦ elim (cases_lt j i) [ inl m ↦ absurd (never j i y x m b a) | inr m ↦ omega arith ]
    ]

    same : x ≡ y
    same = let one : Some x ≡ Some y = sym a.at ∙ ap (slice_get k.items) place ∙ b.at in cc

pub item_in_core : (g : PlainGrammar) (k : Kernel) → IsItemList g k → (p d i : ℕ) (x : KernelItem) → IsItem k p d i x → IsInCore (Holds k) p d
item_in_core g k is p d i x item =
    let valid = recursion_at (IsKernelItem g) k.items is.items i x item.at in
    let a = some_item x.looks valid.some in
    (a.0, holds_by_item k p d i x a.0 item a.1)

own_item : (k : Kernel) (i : ℕ) (x : KernelItem) → slice_get k.items i ≡ Some x → IsItem k x.production x.dot i x
own_item k i x at = record { at = at; production = refl; dot = refl }

abbrev Found : List KernelItem → ℕ → ℕ → Type 0
Found xs p d = (i : ℕ) × (x : KernelItem) × (slice_get xs i ≡ Some x) × (x.production ≡ p) × (x.dot ≡ d)

found_later : (x : KernelItem) (xs : List KernelItem) (p d : ℕ) → (x.production ≡ p → x.dot ≡ d → ⊥) → Found xs p d ⊎ (Found xs p d → ⊥) → Found (x ∷ xs) p d ⊎ (Found (x ∷ xs) p d → ⊥)
found_later x xs p d n (inl f) = inl (suc f.0, f.1, f.2, f.3, f.4)
found_later x xs p d n (inr m) = inr (λ f. none f.0 f.1 f.2 f.3 f.4)
  where
    none : (i : ℕ) (y : KernelItem) → slice_get (x ∷ xs) i ≡ Some y → y.production ≡ p → y.dot ≡ d → ⊥
    none zero y e s t = let same : x ≡ y = cc in n (ap (λ (z : KernelItem). z.production) same ∙ s) (ap (λ (z : KernelItem). z.dot) same ∙ t)
    none (suc i) y e s t = m (i, y, e, s, t)

-- Decides whether a list has an item with a given production and dot.
find : (xs : List KernelItem) (p d : ℕ) → Found xs p d ⊎ (Found xs p d → ⊥)
find [] p d = inr (λ f. let e : None ≡ Some f.1 = f.2 in cc)
find (x ∷ xs) p d = elim (cases_eq x.production p) [
  | inl s ↦ elim (cases_eq x.dot d) [
    | inl t ↦ inl (zero, x, refl, s, t)
    | inr t ↦ found_later x xs p d (λ u v. t v) (find xs p d)
  ]
  | inr s ↦ found_later x xs p d (λ u v. s u) (find xs p d)
]

module _ (k m : Kernel) (paired : HaveSameCoreList k.items m.items) where
  -- The other list has an item with the same production and dot, at the same index.
  pub partner_right : (p d i : ℕ) (x : KernelItem) → IsItem k p d i x → (y : KernelItem) × IsItem m p d i y
  partner_right p d i x a =
      let y = get_within m.items i (rw (← paired.0) (slice_get_within k.items i x a.at)) in
      let one = paired.1 i x y.0 a.at y.1 in
      (y.0, record { at = y.1; production = sym one.0 ∙ a.production; dot = sym one.1 ∙ a.dot })

  pub partner_left : (p d i : ℕ) (y : KernelItem) → IsItem m p d i y → (x : KernelItem) × IsItem k p d i x
  partner_left p d i y a =
      let x = get_within k.items i (rw paired.0 (slice_get_within m.items i y a.at)) in
      let one = paired.1 i x.0 y x.1 a.at in
      (x.0, record { at = x.1; production = one.0 ∙ a.production; dot = one.1 ∙ a.dot })

  -- Where the items of the one kernel are unique, so are those of the other.
  pub unique_right : AreItemsUnique k → AreItemsUnique m
  unique_right of_k p d i j x y a b =
      let u = partner_left p d i x a in
      let v = partner_left p d j y b in
      let place : i ≡ j = (of_k p d i j u.0 v.0 u.1 v.1).0 in
      (place, let one : Some x ≡ Some y = sym a.at ∙ ap (slice_get m.items) place ∙ b.at in cc)

  module _ (of_k : AreItemsUnique k) (of_m : AreItemsUnique m) where
    -- If the looks are contained at each index, one item set contains the other.
    pub within_covers : AreItemLooksWithin m.items k.items → Covers (Holds k) (Holds m)
    within_covers w p d a h =
        let y = item_that_holds m p d a h in
        let x = partner_left p d y.0 y.1 y.2 in
        holds_by_item k p d y.0 x.0 a x.1 (w y.0 y.1 x.0 y.2.at x.1.at a y.3)

    pub covers_within : Covers (Holds k) (Holds m) → AreItemLooksWithin m.items k.items
    covers_within c i y x at to a h =
        let own = own_item m i y at in
        let mine = partner_left y.production y.dot i y own in
        let z = item_that_holds k y.production y.dot a (c y.production y.dot a (holds_by_item m y.production y.dot i y a own h)) in
        let one = of_k y.production y.dot z.0 i z.1 mine.0 z.2 mine.1 in
        let same : mine.0 ≡ x = (let two : Some mine.0 ≡ Some x = sym mine.1.at ∙ to in cc) in
        rw (one.1 ∙ same) at z.3

    -- Two items that share a look have a common look in their kernels.
    common_meet : (p d q e i j : ℕ) (j1 j2 : Kernel) (x y : KernelItem) → IsItem j1 p d i x → IsItem j2 q e j y → ShareLook x.looks y.looks → HaveCommonLook (Holds j1) p d (Holds j2) q e
    common_meet p d q e i j j1 j2 x y a b c = (c.0, holds_by_item j1 p d i x c.0 a c.1, holds_by_item j2 q e j y c.0 b c.2)

    look_of : (j1 : Kernel) → AreItemsUnique j1 → (p d i : ℕ) (x : KernelItem) (a : Look) → IsItem j1 p d i x → Holds j1 p d a → Contains x.looks a
    look_of j1 is p d i x a item h =
        let z = item_that_holds j1 p d a h in
        let one = is p d z.0 i z.1 x z.2 item in
        rw one.1 at z.3

    meet_common : (p d q e i j : ℕ) (j1 j2 : Kernel) → AreItemsUnique j1 → AreItemsUnique j2 → (x y : KernelItem) → IsItem j1 p d i x → IsItem j2 q e j y → HaveCommonLook (Holds j1) p d (Holds j2) q e → ShareLook x.looks y.looks
    meet_common p d q e i j j1 j2 is1 is2 x y a b m = (m.0, look_of j1 is1 p d i x m.0 a m.1, look_of j2 is2 q e j y m.0 b m.2)

    module _ (p d q e i j : ℕ) (a b c f : KernelItem) (at_a : IsItem k p d i a) (at_b : IsItem m p d i b) (at_c : IsItem k q e j c) (at_f : IsItem m q e j f) where
      abbrev Suits : Type 0
      Suits = ((HaveCommonLook (Holds k) p d (Holds m) q e → ⊥) × (HaveCommonLook (Holds k) q e (Holds m) p d → ⊥)) ⊎ (HaveCommonLook (Holds k) p d (Holds k) q e ⊎ HaveCommonLook (Holds m) p d (Holds m) q e)

      suits_fit : Suits → MeetsCondition a.looks b.looks c.looks f.looks
      suits_fit (inl n) = inl ((λ x. n.0 (common_meet p d q e i j k m a f at_a at_f x)), (λ x. n.1 (common_meet q e p d j i k m c b at_c at_b x)))
      suits_fit (inr (inl x)) = inr (inl (meet_common p d q e i j k k of_k of_k a c at_a at_c x))
      suits_fit (inr (inr x)) = inr (inr (meet_common p d q e i j m m of_m of_m b f at_b at_f x))

      fit_suits : MeetsCondition a.looks b.looks c.looks f.looks → Suits
      fit_suits (inl n) = inl ((λ x. n.0 (meet_common p d q e i j k m of_k of_m a f at_a at_f x)), (λ x. n.1 (meet_common q e p d j i k m of_k of_m c b at_c at_b x)))
      fit_suits (inr (inl x)) = inr (inl (common_meet p d q e i j k k a c at_a at_c x))
      fit_suits (inr (inr x)) = inr (inr (common_meet p d q e i j m m b f at_b at_f x))

    pub meets_if_compatible : AreCompatible (Holds k) (Holds m) → MeetsConditionEverywhere k.items m.items
    meets_if_compatible w j l i s a b c f at_a at_b at_c at_f =
        let x = own_item k i a at_a in
        let z = own_item k j c at_c in
        let y : IsItem m a.production a.dot i b = (let one = paired.1 i a b at_a at_b in record { at = at_b; production = sym one.0; dot = sym one.1 }) in
        let u : IsItem m c.production c.dot j f = (let one = paired.1 j c f at_c at_f in record { at = at_f; production = sym one.0; dot = sym one.1 }) in
        suits_fit a.production a.dot c.production c.dot i j a b c f x y z u (w a.production a.dot c.production c.dot (λ t v.
        let same : IsItem k a.production a.dot j c = record { at = at_c; production = sym t; dot = sym v } in
        let e : i ≡ j = (of_k a.production a.dot i j a c x same).0 in
        omega arith))

    swap : (p d q e : ℕ) → ((HaveCommonLook (Holds k) q e (Holds m) p d → ⊥) × (HaveCommonLook (Holds k) p d (Holds m) q e → ⊥)) ⊎ (HaveCommonLook (Holds k) q e (Holds k) p d ⊎ HaveCommonLook (Holds m) q e (Holds m) p d) → ((HaveCommonLook (Holds k) p d (Holds m) q e → ⊥) × (HaveCommonLook (Holds k) q e (Holds m) p d → ⊥)) ⊎ (HaveCommonLook (Holds k) p d (Holds k) q e ⊎ HaveCommonLook (Holds m) p d (Holds m) q e)
    swap p d q e (inl n) = inl (n.1, n.0)
    swap p d q e (inr (inl x)) = inr (inl (x.0, x.2, x.1))
    swap p d q e (inr (inr x)) = inr (inr (x.0, x.2, x.1))

    pub compatible_if_meets : MeetsConditionEverywhere k.items m.items → AreCompatible (Holds k) (Holds m)
    compatible_if_meets h p d q e apart = elim (find k.items p d) [
      | inl f ↦ elim (find k.items q e) [
        | inl s ↦ found f.0 f.1 s.0 s.1 (record { at = f.2; production = f.3; dot = f.4 }) (record { at = s.2; production = s.3; dot = s.4 })
        | inr n ↦ inl ((λ x. n (partner_of q e (x.0, x.2))), (λ x. n (place_of q e (x.0, x.1))))
      ]
      | inr n ↦ inl ((λ x. n (place_of p d (x.0, x.1))), (λ x. n (partner_of p d (x.0, x.2))))
    ]
      where
        place_of : (r s : ℕ) → IsInCore (Holds k) r s → Found k.items r s
        place_of r s x = let y = item_that_holds k r s x.0 x.1 in (y.0, y.1, y.2.at, y.2.production, y.2.dot)

        partner_of : (r s : ℕ) → IsInCore (Holds m) r s → Found k.items r s
        partner_of r s x =
            let y = item_that_holds m r s x.0 x.1 in
            let z = partner_left r s y.0 y.1 y.2 in
            (y.0, z.0, z.1.at, z.1.production, z.1.dot)

        found : (i : ℕ) (a : KernelItem) (j : ℕ) (c : KernelItem) → IsItem k p d i a → IsItem k q e j c → ((HaveCommonLook (Holds k) p d (Holds m) q e → ⊥) × (HaveCommonLook (Holds k) q e (Holds m) p d → ⊥)) ⊎ (HaveCommonLook (Holds k) p d (Holds k) q e ⊎ HaveCommonLook (Holds m) p d (Holds m) q e)
        found i a j c at_a at_c =
            let b = partner_right p d i a at_a in
            let f = partner_right q e j c at_c in
            elim (cases_lt i j) [
              | inl l ↦ fit_suits p d q e i j a b.0 c f.0 at_a b.1 at_c f.1 (h j (slice_get_within k.items j c at_c.at) i l a b.0 c f.0 at_a.at b.1.at at_c.at f.1.at)
              | inr l ↦ elim (cases_lt j i) [
                | inl r ↦ swap p d q e (fit_suits q e p d j i c f.0 a b.0 at_c f.1 at_a b.1 (h i (slice_get_within k.items i a at_a.at) j r c f.0 a b.0 at_c.at f.1.at at_a.at b.1.at))
                | inr r ↦ (
                    let same : i ≡ j = omega arith in
                    let one : Some a ≡ Some c = sym at_a.at ∙ ap (slice_get k.items) same ∙ at_c.at in
                    let is : a ≡ c = cc in
                    absurd (apart (sym at_a.production ∙ ap (λ (x : KernelItem). x.production) is ∙ at_c.production) (sym at_a.dot ∙ ap (λ (x : KernelItem). x.dot) is ∙ at_c.dot)))
              ]
            ]

-- Lists whose items have the same places at each index have one core.
module _ (g : PlainGrammar) (k m : Kernel) (of_k : IsItemList g k) (of_m : IsItemList g m) (paired : HaveSameCoreList k.items m.items) where
  pub paired_core : HaveSameCore (Holds k) (Holds m)
  paired_core p d = (
    (λ h. let x = item_that_holds k p d h.0 h.1 in let y = partner_right k m paired p d x.0 x.1 x.2 in item_in_core g m of_m p d x.0 y.0 y.1),
    (λ h. let y = item_that_holds m p d h.0 h.1 in let x = partner_left k m paired p d y.0 y.1 y.2 in item_in_core g k of_k p d y.0 x.0 x.1),
  )

bare_rising : (xs : List KernelItem) → IsRising IsItemBefore xs → IsRising IsItemBefore (map core_item xs)
bare_rising [] r = tt
bare_rising (x ∷ xs) r = (below xs r.0, bare_rising xs r.1)
  where
    below : (ys : List KernelItem) → AllByRecursion (IsItemBefore x) ys → AllByRecursion (IsItemBefore (core_item x)) (map core_item ys)
    below [] a = tt
    below (y ∷ ys) a = (a.0, below ys a.1)

bare_at : (xs : List KernelItem) (i : ℕ) (x : KernelItem) → slice_get xs i ≡ Some x → slice_get (map core_item xs) i ≡ Some (core_item x)
bare_at [] i x e = cc
bare_at (y ∷ xs) zero x e = let same : y ≡ x = cc in ap (λ (z : KernelItem). Some (core_item z)) same
bare_at (y ∷ xs) (suc i) x e = bare_at xs i x e

bare_from : (xs : List KernelItem) (i : ℕ) (y : KernelItem) → slice_get (map core_item xs) i ≡ Some y → (x : KernelItem) × (slice_get xs i ≡ Some x) × (core_item x ≡ y)
bare_from [] i y e = cc
bare_from (x ∷ xs) zero y e = (x, refl, cc)
bare_from (x ∷ xs) (suc i) y e = bare_from xs i y e

-- Lists that are equal without looks have the same productions and dots.
pub paired_if_cores_equal : (xs ys : List KernelItem) → map core_item xs ≡ map core_item ys → HaveSameCoreList xs ys
paired_if_cores_equal xs ys same = (
  sym (length-map xs core_item) ∙ ap length same ∙ length-map ys core_item,
  λ i x y e f.
      let one : Some (core_item x) ≡ Some (core_item y) = sym (bare_at xs i x e) ∙ ap (λ (l : List KernelItem). slice_get l i) same ∙ bare_at ys i y f in
      let is : core_item x ≡ core_item y = cc in
      (ap (λ (z : KernelItem). z.production) is, ap (λ (z : KernelItem). z.dot) is),
)

module _ (g : PlainGrammar) (k m : Kernel) (of_k : IsItemList g k) (of_m : IsItemList g m) (core : HaveSameCore (Holds k) (Holds m)) where
  -- Each core item of the one list is in the other.
  bare_in : (j1 j2 : Kernel) → IsItemList g j1 → ((p d : ℕ) → IsInCore (Holds j1) p d → IsInCore (Holds j2) p d) → (y : KernelItem) → Contains (map core_item j1.items) y → Contains (map core_item j2.items) y
  bare_in j1 j2 is h y c =
      let at = at_contains (map core_item j1.items) y c in
      let x = bare_from j1.items at.0 y at.1 in
      let pair = h x.0.production x.0.dot (item_in_core g j1 is x.0.production x.0.dot at.0 x.0 (own_item j1 at.0 x.0 x.1)) in
      let z = item_that_holds j2 x.0.production x.0.dot pair.0 pair.1 in
      let same : core_item z.1 ≡ core_item x.0 = (λ i. record { production = z.2.production i; dot = z.2.dot i; looks = [] }) in
      contains_at (map core_item j2.items) z.0 y (bare_at j2.items z.0 z.1 z.2.at ∙ ap Some (same ∙ x.2))

  pub cores_equal : map core_item k.items ≡ map core_item m.items
  cores_equal = rising_same IsItemBefore before_asymmetric (map core_item k.items) (map core_item m.items) (bare_rising k.items of_k.rising) (bare_rising m.items of_m.rising)
      (λ y. (bare_in k m of_k (λ p d. (core p d).0) y, bare_in m k of_m (λ p d. (core p d).1) y))

  pub core_paired : HaveSameCoreList k.items m.items
  core_paired = paired_if_cores_equal k.items m.items cores_equal

  -- Two item lists of one grammar with the same core are kernels of one core.
  pub have_one_core : HaveOneCore k m
  have_one_core = record { count = core_paired.0; places = core_paired.1; rising = of_k.rising }
