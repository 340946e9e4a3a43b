-- Proves that a kernel holds a move, item by item, exactly if an edge of the move may lead to a state with this kernel.
use Rattle.std.proofs.Common.{◌≡◌, ◌<◌, ℕ, List, [], ◌∷◌, length, refl, sym, ap, ◌∙◌, subst, arith, inl, inr}
use Rattle.std.specs.List.{AllZip, AllByRecursion, Contains}
use Rattle.mh_grammar.specs.declared.types.Symbol.{Symbol}
use Rattle.mh_grammar.specs.declared.types.Look.{Look}
use Rattle.mh_grammar.specs.Plain.{PlainGrammar}
use Rattle.mh_grammar.specs.Edges.{IsRising}
use Rattle.mh_grammar.specs.ItemSets.{AreSameItems}
use Rattle.mh_grammar.proofs.Lists.{contains_here, contains_there, contains_cases, contains_none, at_contains, contains_at, recursion_contains, some_item, zip_left, zip_right}
use Rattle.mh_items_kernels.specs.KernelTypes.{KernelItem, Kernel, Automaton}
use Rattle.mh_items_kernels.specs.Kernels.{Holds, HasCoreItem, IsItemList, IsKernelItem, IsItemBefore}
use Rattle.mh_items_kernels.specs.Automaton.{kernel_at, move_of, IsTarget}
use Rattle.mh_items_kernels.proofs.UniqueItemList.{before_not_same_place, before_trans, same_place_if_unordered, of_items}
use Rattle.mh_validate_valid.specs.code.KernelWithin.{IsItemWithin, IsKernelWithin}

pub target_of : (g : PlainGrammar) (a : Automaton) (s : ℕ) (X : Symbol) (u : ℕ) (m : Kernel) → IsItemList g m → AreSameItems (Holds m) (move_of g a s X) → u < length a.kernels → IsKernelWithin m (kernel_at a u) → IsTarget g a s X u
target_of g a s X u m k same known h = record {
  known = known;
  core = λ p d (item, c, e, f).
      let (i, at) = at_contains (kernel_at a u).items item c in
      let (x, there, w) = zip_right IsItemWithin m.items (kernel_at a u).items h i item at in
      let has = contains_at m.items i x there in
      let (l, in_x) = some_item x.looks (recursion_contains (IsKernelItem g) m.items k.items x has).some in
      (l, (same p d l).0 (x, has, w.production ∙ e, w.dot ∙ f, in_x));
  looks = λ p d l on.
      let (x, c, e, f, in_x) = (same p d l).1 on in
      let (i, at) = at_contains m.items x c in
      let (y, there, w) = zip_left IsItemWithin m.items (kernel_at a u).items h i x at in
      (y, contains_at (kernel_at a u).items i y there, sym w.production ∙ e, sym w.dot ∙ f, w.looks l in_x);
}

-- Lemmas on the converse: if an edge of a move may lead to a state with this kernel, the kernel holds the move, item by
-- item.

module _ (g : PlainGrammar) where
  -- In a rising list, only the first item has the production and dot of the first item.
  module _ (y : KernelItem) (ys : List KernelItem) (below : AllByRecursion (IsItemBefore y) ys) where
    at_head : (z : KernelItem) → Contains (y ∷ ys) z → z.production ≡ y.production → z.dot ≡ y.dot → y ≡ z
    at_head z c p d = elim (contains_cases y ys z c) [ inl e ↦ e | inr r ↦ absurd (before_not_same_place y z (recursion_contains (IsItemBefore y) ys below z r) (sym p) (sym d)) ]

    behind_head : (z : KernelItem) → Contains (y ∷ ys) z → (x : KernelItem) → IsItemBefore x z → x.production ≡ y.production → x.dot ≡ y.dot → Contains ys z
    behind_head z c x before p d = elim (contains_cases y ys z c) [ inl e ↦ absurd (before_not_same_place x z before (p ∙ ap (λ (i : KernelItem). i.production) e) (d ∙ ap (λ (i : KernelItem). i.dot) e)) | inr r ↦ r ]

  pub within_of : (xs ys : List KernelItem) → AllByRecursion (IsKernelItem g) xs → IsRising IsItemBefore xs → IsRising IsItemBefore ys
      → ((p d : ℕ) (l : Look) → Holds (of_items xs) p d l → Holds (of_items ys) p d l) → ((p d : ℕ) → HasCoreItem (of_items ys) p d → HasCoreItem (of_items xs) p d) → AllZip IsItemWithin xs ys
  within_of [] [] each r s looks places = tt
  within_of [] (y ∷ ys) each r s looks places = let (x, c, e, f) = places y.production y.dot (y, contains_here y ys, refl, refl) in absurd (contains_none x c)
  within_of (x ∷ xs) [] each r s looks places =
      let (l, c) = some_item x.looks each.0.some in
      let (y, d, e, f, n) = looks x.production x.dot l (x, contains_here x xs, refl, refl, c) in
      absurd (contains_none y d)
  within_of (x ∷ xs) (y ∷ ys) each r s looks places =
      let (l, c) = some_item x.looks each.0.some in
      let (z, at, zp, zd, zl) = looks x.production x.dot l (x, contains_here x xs, refl, refl, c) in
      let (w, there, wp, wd) = places y.production y.dot (y, contains_here y ys, refl, refl) in
      let first : (x.production ≡ y.production) × (x.dot ≡ y.dot) = same_place_if_unordered x y
      (λ before. elim (contains_cases y ys z at) [
        | inl e ↦ before_not_same_place x y before (sym zp ∙ sym (ap (λ (i : KernelItem). i.production) e)) (sym zd ∙ sym (ap (λ (i : KernelItem). i.dot) e))
        | inr rest ↦ before_not_same_place x z (before_trans x y z before (recursion_contains (IsItemBefore y) ys s.0 z rest)) (sym zp) (sym zd)
      ])
      (λ before. elim (contains_cases x xs w there) [
        | inl e ↦ before_not_same_place y x before (sym wp ∙ sym (ap (λ (i : KernelItem). i.production) e)) (sym wd ∙ sym (ap (λ (i : KernelItem). i.dot) e))
        | inr rest ↦ before_not_same_place y w (before_trans y x w before (recursion_contains (IsItemBefore x) xs r.0 w rest)) (sym wp) (sym wd)
      ]) in
      let one : IsItemWithin x y = record {
        production = first.0;
        dot = first.1;
        looks = λ a in_x.
            let (v, has, vp, vd, vl) = looks x.production x.dot a (x, contains_here x xs, refl, refl, in_x) in
            let same : y ≡ v = at_head y ys s.0 v has (vp ∙ first.0) (vd ∙ first.1) in
            subst (λ (i : KernelItem). Contains i.looks a) (sym same) vl;
      } in
      let rest = within_of xs ys each.1 r.1 s.1
      (λ p d a (i, has, ip, id, il).
      let (v, in_all, vp, vd, vl) = looks p d a (i, contains_there x xs i has, ip, id, il) in
      let before : IsItemBefore x v = moved_to x i v (recursion_contains (IsItemBefore x) xs r.0 i has) (ip ∙ sym vp) (id ∙ sym vd) in
      (v, behind_head y ys s.0 v in_all x before first.0 first.1, vp, vd, vl))
      (λ p d (i, has, ip, id).
      let (v, in_all, vp, vd) = places p d (i, contains_there y ys i has, ip, id) in
      let before : IsItemBefore y v = moved_to y i v (recursion_contains (IsItemBefore y) ys s.0 i has) (ip ∙ sym vp) (id ∙ sym vd) in
      (v, behind_head x xs r.0 v in_all y before (sym first.0) (sym first.1), vp, vd)) in
      (one, rest)
    where
      moved_to : (k i v : KernelItem) → IsItemBefore k i → i.production ≡ v.production → i.dot ≡ v.dot → IsItemBefore k v
      moved_to k i v (inl h) p d = inl (omega arith)
      moved_to k i v (inr h) p d = let e = h.0 in let l = h.1 in inr (h.0 ∙ p, omega arith)

-- If an edge of the move may lead to a state, the kernel of this state holds the move.
pub holds_move : (g : PlainGrammar) (a : Automaton) (s : ℕ) (X : Symbol) (u : ℕ) (m : Kernel) → IsItemList g m → IsItemList g (kernel_at a u) → AreSameItems (Holds m) (move_of g a s X) → IsTarget g a s X u → IsKernelWithin m (kernel_at a u)
holds_move g a s X u m k n same t = within_of g m.items (kernel_at a u).items k.items k.rising n.rising
    (λ p d l h. t.looks p d l ((same p d l).0 h))
    (λ p d h. let (l, on) = t.core p d h in let (item, c, e, f, x) = (same p d l).1 on in (item, c, e, f))
