-- Lemmas on the move of a rising list of items, item by item.
use Rattle.std.proofs.Common.{◌≡◌, ℕ, suc, ◌+◌, ◌<◌, ◌≤◌, List, [], ◌∷◌, ◌++◌, ◌-◌, Some, length, refl, sym, ap, subst, ◌∙◌, arith, inl, inr, add-one}
use Rattle.std.specs.List.{slice_get, Contains}
use Rattle.std.proofs.lemmas.Bool.{cases_eq}
use Rattle.std.proofs.lemmas.List.Elements.{Contains-push, Contains-push_cases, Contains-append_left}
use Rattle.std.proofs.lemmas.Option.{slice_get_within}
use Rattle.mh_grammar.specs.declared.types.Symbol.{Symbol}
use Rattle.mh_grammar.specs.declared.types.Look.{Look}
use Rattle.mh_grammar.specs.Plain.{PlainGrammar, rhs_of}
use Rattle.mh_grammar.specs.ItemSets as sets
use Rattle.mh_grammar.specs.ItemSets.{AreSameItems, Moved}
use Rattle.mh_items_kernels.specs.KernelTypes.{KernelItem}
use Rattle.mh_items_kernels.specs.KernelTypes.{Items, Kernel}
use Rattle.mh_items_kernels.specs.Kernels.{Holds, IsItemList, IsKernelItem, IsItemBefore}
use Rattle.mh_grammar.proofs.Lists.{get_unique, contains_at, at_contains, recursion_at, rising_at, get_from_drop}
use Rattle.mh_items_kernels.proofs.SymbolAtDot.{drop_from-slice_get}
use Rattle.mh_items_kernels.proofs.AppendedItem.{kernel_push}

abbrev of_items : List KernelItem → Kernel
of_items items = record { items = items }

abbrev past : KernelItem → KernelItem
past y = record { production = y.production; dot = y.dot + 1; looks = y.looks }

-- The item x is item i of the list with its dot moved past X.
pub record IsAdvancedItem (g : PlainGrammar) (X : Symbol) (items : List KernelItem) (i : ℕ) (x : KernelItem) : Type 0 where
  pub place : ℕ
  pub source : KernelItem
  pub below : place < i
  pub at : slice_get items place ≡ Some source
  pub moves : slice_get (rhs_of g source.production) source.dot ≡ Some X
  pub is : x ≡ past source

pub record MovedSoFar (g : PlainGrammar) (X : Symbol) (items out : List KernelItem) (i : ℕ) : Type 0 where
  pub kernel : IsItemList g (of_items out)
  pub origin : (x : KernelItem) → Contains out x → IsAdvancedItem g X items i x
  pub moved : (k : ℕ) (y : KernelItem) → k < i → slice_get items k ≡ Some y → slice_get (rhs_of g y.production) y.dot ≡ Some X → Contains out (past y)

pub MovedSoFar-start : (g : PlainGrammar) (X : Symbol) (items : List KernelItem) → MovedSoFar g X items [] 0
MovedSoFar-start g X items = record {
  kernel = record { items = tt; rising = tt };
  origin = λ x c. absurd (let l = c.1 in omega arith);
  moved = λ k y l. absurd (omega arith);
}

past_before : (x y : KernelItem) → IsItemBefore x y → IsItemBefore (past x) (past y)
past_before x y (inl l) = inl l
past_before x y (inr l) = let e = l.1 in inr (l.0, omega arith)

further : (g : PlainGrammar) (X : Symbol) (items : List KernelItem) (i : ℕ) (x : KernelItem) → IsAdvancedItem g X items i x → IsAdvancedItem g X items (i + 1) x
further g X items i x h = record { place = h.place; source = h.source; below = (let f = h.below in omega arith); at = h.at; moves = h.moves; is = h.is }

module _ (g : PlainGrammar) (X : Symbol) (items out : List KernelItem) (i : ℕ) (y : KernelItem) (k : IsItemList g (of_items items)) (h : MovedSoFar g X items out i) (at : slice_get items i ≡ Some y) where
  pub MovedSoFar-push : slice_get (rhs_of g y.production) y.dot ≡ Some X → MovedSoFar g X items (out ++ past y ∷ []) (i + 1)
  MovedSoFar-push m =
      let valid = recursion_at (IsKernelItem g) items k.items i y at in
      let room = slice_get_within (rhs_of g y.production) y.dot X m in
      record {
        kernel = kernel_push g out (past y) h.kernel (record { production = valid.production; dot = omega arith; looks = valid.looks; rising = valid.rising; some = valid.some })
            (λ x c. let o = h.origin x c in let P : KernelItem → Type 0 = λ z. IsItemBefore z (past y) in subst P (sym o.is) (past_before o.source y (rising_at IsItemBefore items k.rising o.place i o.source y o.below o.at at)));
        origin = λ x c. elim (Contains-push_cases out (past y) x c) [
          | inl d ↦ further g X items i x (h.origin x d)
          | inr e ↦ record { place = i; source = y; below = omega arith; at = at; moves = m; is = sym e }
        ];
        moved = λ j z l read n. elim (cases_eq j i) [
          | inl e ↦ (let one : z ≡ y = get_unique items i z y (rw e at read) at in let P : KernelItem → Type 0 = λ w. Contains (out ++ past y ∷ []) (past w) in subst P (sym one) (Contains-push out (past y)))
          | inr o ↦ Contains-append_left out (past y ∷ []) (past z) (h.moved j z (omega arith) read n)
        ];
      }

  pub MovedSoFar-skip : (slice_get (rhs_of g y.production) y.dot ≡ Some X → ⊥) → MovedSoFar g X items out (i + 1)
  MovedSoFar-skip n = record {
    kernel = h.kernel;
    origin = λ x c. further g X items i x (h.origin x c);
    moved = λ j z l read m. elim (cases_eq j i) [
      | inl e ↦ absurd (let one : z ≡ y = get_unique items i z y (rw e at read) at in n (rw one at m))
      | inr o ↦ h.moved j z (omega arith) read m
    ];
  }

module _ (g : PlainGrammar) (X : Symbol) (closed : Items) (out : List KernelItem) (i : ℕ) (all : length closed.items ≤ i) (h : MovedSoFar g X closed.items out i) where
  from_moved : (p d : ℕ) (a : Look) → Holds (of_items out) p d a → Moved g (Holds closed) X p d a
  from_moved p d a f =
      let o = h.origin f.0 f.1 in
      let s = o.source in
      let held : Holds closed s.production s.dot a = (s, contains_at closed.items o.place s o.at, refl, refl, rw o.is at f.4) in
      let m : Moved g (Holds closed) X s.production (suc s.dot) a = sets.Moved.moved held (drop_from-slice_get (rhs_of g s.production) s.dot X o.moves) in
      let production : s.production ≡ p = sym (ap (λ (k : KernelItem). k.production) o.is) ∙ f.2 in
      let dot : suc s.dot ≡ d = sym (add-one s.dot) ∙ sym (ap (λ (k : KernelItem). k.dot) o.is) ∙ f.3 in
      rw (production, dot) at m

  into_moved : (p d : ℕ) (a : Look) → Moved g (Holds closed) X p d a → Holds (of_items out) p d a
  into_moved p d a (sets.Moved.moved {p = p'} {d = d'} {y = y} f e) =
      let s = f.0 in
      let at = at_contains closed.items s f.1 in
      let m : slice_get (rhs_of g s.production) s.dot ≡ Some X = rw (f.2, f.3) (get_from_drop (rhs_of g p') d' X y e) in
      (past s, h.moved at.0 s (omega (arith, slice_get_within closed.items at.0 s at.1)) at.1 m, f.2, ap (λ n. n + 1) f.3 ∙ add-one d', f.4)

  pub moved_of : AreSameItems (Holds (of_items out)) (Moved g (Holds closed) X)
  moved_of p d a = (from_moved p d a, into_moved p d a)
