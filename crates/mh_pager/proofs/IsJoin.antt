-- Proves that, for two kernels with the same core, joining the looks index by index gives the join of the kernels.
use Rattle.std.proofs.Common.{◌≡◌, ◌+◌, ◌<◌, ℕ, suc, List, [], ◌∷◌, ◌++◌, Some, length, refl, sym, ap, ◌∙◌, arith, inl, inr}
use Rattle.std.specs.List.{slice_get, Contains, AllByRecursion}
use Rattle.std.proofs.lemmas.List.{length_push}
use Rattle.std.proofs.lemmas.Option.{slice_get_within}
use Rattle.mh_grammar.specs.declared.types.Look.{Look}
use Rattle.mh_grammar.specs.Plain.{PlainGrammar, IsLookBelow, rhs_of}
use Rattle.mh_grammar.specs.Edges.{IsRising}
use Rattle.mh_grammar.proofs.Lists.{contains_at, at_contains, get_cases, recursion-from, recursion_at, recursion_contains, get_within}
use Rattle.mh_items_kernels.specs.KernelTypes.{KernelItem, Kernel}
use Rattle.mh_items_kernels.specs.Kernels.{Holds, IsItemList, IsKernelItem, IsItemBefore, HasLooksOfBoth}
use Rattle.mh_pager.specs.code.ItemLists.{HaveSameCoreList}
use Rattle.mh_pager.specs.WeakCompatibility.{IsJoin}

pub record JoinedSoFar (xs ys zs : List KernelItem) (n : ℕ) : Type 0 where
  pub len : length zs ≡ n
  pub each : (k : ℕ) (x y z : KernelItem) → slice_get xs k ≡ Some x → slice_get ys k ≡ Some y → slice_get zs k ≡ Some z → HasLooksOfBoth x y z

pub JoinedSoFar-start : (xs ys : List KernelItem) → JoinedSoFar xs ys [] 0
JoinedSoFar-start xs ys = record { len = refl; each = λ k x y z a b c. cc }

pub JoinedSoFar-more : (xs ys zs : List KernelItem) (n : ℕ) (x y z : KernelItem) → slice_get xs n ≡ Some x → slice_get ys n ≡ Some y → HasLooksOfBoth x y z → JoinedSoFar xs ys zs n → JoinedSoFar xs ys (zs ++ z ∷ []) (n + 1)
JoinedSoFar-more xs ys zs n x y z at to is h = record {
  len = omega (arith, length_push zs z, h.len);
  each = λ k u v w a b c. elim (get_cases zs z k w c) [
    | inl before ↦ h.each k u v w a b before
    | inr last ↦ (
        let place : k ≡ n = last.0 ∙ h.len in
        let one : Some u ≡ Some x = sym a ∙ ap (slice_get xs) place ∙ at in
        let two : Some v ≡ Some y = sym b ∙ ap (slice_get ys) place ∙ to in
        let first : u ≡ x = cc in
        let second : v ≡ y = cc in
        rw (first, second, last.1) is)
  ];
}

-- A list with the productions and dots of a rising list is rising.
below_places : (x z : KernelItem) (xs zs : List KernelItem) → z.production ≡ x.production → z.dot ≡ x.dot → length zs ≡ length xs → ((k : ℕ) (u w : KernelItem) → slice_get xs k ≡ Some u → slice_get zs k ≡ Some w → (w.production ≡ u.production) × (w.dot ≡ u.dot)) → AllByRecursion (IsItemBefore x) xs → AllByRecursion (IsItemBefore z) zs
below_places x z [] [] p d len same below = tt
below_places x z [] (w ∷ zs) p d len same below = absurd (omega arith)
below_places x z (u ∷ xs) [] p d len same below = absurd (omega arith)
below_places x z (u ∷ xs) (w ∷ zs) p d len same below =
    let here = same 0 u w refl refl in
    (rw (p, d, here.0, here.1) below.0, below_places x z xs zs p d (omega arith) (λ k a b. same (suc k) a b) below.1)

rising_places : (xs zs : List KernelItem) → length zs ≡ length xs → ((k : ℕ) (u w : KernelItem) → slice_get xs k ≡ Some u → slice_get zs k ≡ Some w → (w.production ≡ u.production) × (w.dot ≡ u.dot)) → IsRising IsItemBefore xs → IsRising IsItemBefore zs
rising_places [] [] len same rises = tt
rising_places [] (w ∷ zs) len same rises = absurd (omega arith)
rising_places (u ∷ xs) [] len same rises = absurd (omega arith)
rising_places (u ∷ xs) (w ∷ zs) len same rises =
    let here = same 0 u w refl refl in
    (below_places u w xs zs here.0 here.1 (omega arith) (λ k a b. same (suc k) a b) rises.0, rising_places xs zs (omega arith) (λ k a b. same (suc k) a b) rises.1)

module _ (g : PlainGrammar) (k m j : Kernel) (of_k : IsItemList g k) (of_m : IsItemList g m) (paired : HaveSameCoreList k.items m.items) (n : ℕ) (whole : n ≡ length k.items) (h : JoinedSoFar k.items m.items j.items n) where
  len : length j.items ≡ length k.items
  len = h.len ∙ whole

  -- Each index of the join is an index of the first kernel.
  ours : (i : ℕ) (z : KernelItem) → slice_get j.items i ≡ Some z → (x : KernelItem) × (slice_get k.items i ≡ Some x)
  ours i z at = get_within k.items i (omega (arith, slice_get_within j.items i z at, len))

  theirs : (i : ℕ) (z : KernelItem) → slice_get j.items i ≡ Some z → (y : KernelItem) × (slice_get m.items i ≡ Some y)
  theirs i z at = get_within m.items i (omega (arith, slice_get_within j.items i z at, len, paired.0))

  same_place : (i : ℕ) (x z : KernelItem) → slice_get k.items i ≡ Some x → slice_get j.items i ≡ Some z → (z.production ≡ x.production) × (z.dot ≡ x.dot)
  same_place i x z at to = let y = theirs i z to in let is = h.each i x y.0 z at y.1 to in (is.production, is.dot)

  some_one : (z : KernelItem) (a : Look) → Contains z.looks a → 0 < length z.looks
  some_one z a c = omega (arith, c.1)

  item_valid : (i : ℕ) (z : KernelItem) → slice_get j.items i ≡ Some z → IsKernelItem g z
  item_valid i z at =
      let x = ours i z at in
      let y = theirs i z at in
      let is = h.each i x.0 y.0 z x.1 y.1 at in
      let vx = recursion_at (IsKernelItem g) k.items of_k.items i x.0 x.1 in
      let vy = recursion_at (IsKernelItem g) m.items of_m.items i y.0 y.1 in
      let a = get_within x.0.looks 0 vx.some in
      record {
        production = omega (arith, is.production, vx.production);
        dot = let same = ap (λ q. length (rhs_of g q)) is.production in omega (arith, same, is.dot, vx.dot);
        looks = recursion-from (IsLookBelow g.tokens) z.looks (λ b c. elim ((is.looks b).0 c) [
          | inl u ↦ recursion_contains (IsLookBelow g.tokens) x.0.looks vx.looks b u
          | inr u ↦ recursion_contains (IsLookBelow g.tokens) y.0.looks vy.looks b u
        ]);
        rising = is.rising;
        some = some_one z a.0 ((is.looks a.0).1 (inl (contains_at x.0.looks 0 a.0 a.1)));
      }

  pub joined_kernel : IsItemList g j
  joined_kernel = record {
    items = recursion-from (IsKernelItem g) j.items (λ z c. let at = at_contains j.items z c in item_valid at.0 z at.1);
    rising = rising_places k.items j.items len same_place of_k.rising;
  }

  pub joined_exact : IsJoin (Holds k) (Holds m) (Holds j)
  joined_exact p d a = (
    (λ o. (
        let z = o.0 in
        let at = at_contains j.items z o.1 in
        let x = ours at.0 z at.1 in
        let y = theirs at.0 z at.1 in
        let is = h.each at.0 x.0 y.0 z x.1 y.1 at.1 in
        let one = paired.1 at.0 x.0 y.0 x.1 y.1 in
        elim ((is.looks a).0 o.4) [
          | inl u ↦ inl (x.0, contains_at k.items at.0 x.0 x.1, sym is.production ∙ o.2, sym is.dot ∙ o.3, u)
          | inr u ↦ inr (y.0, contains_at m.items at.0 y.0 y.1, sym one.0 ∙ sym is.production ∙ o.2, sym one.1 ∙ sym is.dot ∙ o.3, u)
        ])),
    (λ o. elim o [
      | inl u ↦ (
          let at = at_contains k.items u.0 u.1 in
          let z = get_within j.items at.0 (omega (arith, slice_get_within k.items at.0 u.0 at.1, len)) in
          let y = theirs at.0 z.0 z.1 in
          let is = h.each at.0 u.0 y.0 z.0 at.1 y.1 z.1 in
          (z.0, contains_at j.items at.0 z.0 z.1, is.production ∙ u.2, is.dot ∙ u.3, (is.looks a).1 (inl u.4)))
      | inr u ↦ (
          let at = at_contains m.items u.0 u.1 in
          let z = get_within j.items at.0 (omega (arith, slice_get_within m.items at.0 u.0 at.1, len, paired.0)) in
          let x = ours at.0 z.0 z.1 in
          let is = h.each at.0 x.0 u.0 z.0 x.1 at.1 z.1 in
          let one = paired.1 at.0 x.0 u.0 x.1 at.1 in
          (z.0, contains_at j.items at.0 z.0 z.1, is.production ∙ one.0 ∙ u.2, is.dot ∙ one.1 ∙ u.3, (is.looks a).1 (inr u.4)))
    ]),
  )
