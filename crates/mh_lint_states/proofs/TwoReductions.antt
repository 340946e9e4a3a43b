-- Two complete items of a closed state on a look are two reductions.
use Rattle.std.proofs.Common.{◌≡◌, ℕ, ◌<◌, ◌↔◌, Bool, IsTrue, List, Some, length, refl, sym, ap, ◌∙◌, arith, inl, inr}
use Rattle.std.specs.List.{slice_get}
use Rattle.std.proofs.lemmas.Bool.{cases_lt, cases_eq}
use Rattle.mh_grammar.proofs.Lists.{at_contains, contains_at, get_unique, rising_at}
use Rattle.mh_grammar.specs.declared.types.Grammar.{Grammar}
use Rattle.mh_grammar.specs.declared.types.Look.{Look}
use Rattle.mh_grammar.specs.Plain.{plain_of, rhs_of}
use Rattle.mh_items_kernels.specs.KernelTypes.{Automaton, Kernel, KernelItem}
use Rattle.mh_items_kernels.specs.Kernels.{IsItemBefore}
use Rattle.mh_tables_core.specs.declared.parts.Action.TheVariants.{Reduce}
use Rattle.mh_resolve_cells.specs.States.{Raw, state_of}
use Rattle.mh_lint_states.specs.ConflictKinds.{CanReduceTwo}
use Rattle.mh_lint_states.specs.code.ClosedStates.{IsClosedState}
use Rattle.mh_lint_states.specs.code.CompleteItems.{HasTwoOn, IsOneOn}

module _ (g : Grammar) (a : Automaton) (s : ℕ) (closed : Kernel) (look : Look) (is : IsClosedState g a s closed) (before : (i j : ℕ) (x y : KernelItem) → i < j → slice_get closed.items i ≡ Some x → slice_get closed.items j ≡ Some y → IsItemBefore x y) where
  abbrev rhs_length : ℕ → ℕ
  rhs_length p = length (rhs_of (plain_of g) p)

  raw_of : (i : ℕ) → (x : IsOneOn g closed.items look i) → Raw (state_of g a s) look (Reduce x.item.production)
  raw_of i x = (is.items x.item.production (rhs_length x.item.production) look).0 (x.item, contains_at closed.items i x.item x.at, refl, x.complete.complete, x.complete.has_look)

  one_of : (p : ℕ) → Raw (state_of g a s) look (Reduce p) → (i : ℕ) × (x : IsOneOn g closed.items look i) × (x.item.production ≡ p)
  one_of p r =
      let h = (is.items p (rhs_length p) look).1 r in
      let at = at_contains closed.items h.0 h.1 in
      (at.0, record { item = h.0; at = at.1; complete = record { complete = h.3 ∙ ap rhs_length (sym h.2); has_look = h.4 } }, h.2)

  pub two_to : HasTwoOn g closed.items look → CanReduceTwo g a s look
  two_to h = record {
    one = h.is_one.item.production;
    other = h.is_other.item.production;
    reduce_one = raw_of h.one h.is_one;
    reduce_other = raw_of h.other h.is_other;
    below = elim (before h.one h.other h.is_one.item h.is_other.item h.below h.is_one.at h.is_other.at) [
      | inl l ↦ l
      | inr e ↦ (let same = h.is_one.complete.complete ∙ ap rhs_length e.0 ∙ sym h.is_other.complete.complete in absurd (omega (arith, e.1, same)))
    ];
  }

  pub two_from : CanReduceTwo g a s look → HasTwoOn g closed.items look
  two_from h =
      let one = one_of h.one h.reduce_one in
      let other = one_of h.other h.reduce_other in
      let differ : one.1.item.production < other.1.item.production = (let x = one.2 in let y = other.2 in let l = h.below in omega arith) in
      elim (cases_lt one.0 other.0) [
        | inl l ↦ record { one = one.0; other = other.0; is_one = one.1; is_other = other.1; below = l }
        | inr past ↦ elim (cases_eq one.0 other.0) [
          | inl e ↦ (let same = get_unique closed.items one.0 one.1.item other.1.item one.1.at (rw e other.1.at) in let p = ap (λ (k : KernelItem). k.production) same in absurd (omega (arith, p, differ)))
          | inr ne ↦ record { one = other.0; other = one.0; is_one = other.1; is_other = one.1; below = omega arith }
        ]
      ]

-- Two items of the list are complete on the look exactly if the state can reduce two productions on it.
pub two_reductions : (g : Grammar) (a : Automaton) (s : ℕ) (closed : Kernel) (look : Look) (items : List KernelItem) (answer : Bool) → IsClosedState g a s closed → items ≡ closed.items → IsTrue answer ↔ HasTwoOn g items look → IsTrue answer ↔ CanReduceTwo g a s look
two_reductions g a s closed look items answer is same exact =
    let before = λ (i j : ℕ) (x y : KernelItem) (l : i < j) (e : slice_get closed.items i ≡ Some x) (f : slice_get closed.items j ≡ Some y). rising_at IsItemBefore closed.items is.is_list.rising i j x y l e f in
    let here = rw same at exact in
    (λ yes. two_to g a s closed look is before (here.0 yes), λ two. here.1 (two_from g a s closed look is before two))
