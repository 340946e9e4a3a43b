-- Lemmas on the kernel of a state, as read from its items.
use Rattle.std.specs.Prelude.{◌==◌}
use Rattle.std.proofs.Common.{IsTrue, eqb-true, Bool, true, false, true≢false, ◌≡◌, ◌↔◌, ◌<◌, ◌≤◌, ℕ, List, [], ◌∷◌, length, refl, sym, ap, ◌∙◌, subst, arith, inl, inr}
use Rattle.std.specs.List.{AllByRecursion}
use Rattle.std.proofs.lemmas.Bool.{cases_lt}
use Rattle.mh_grammar.specs.declared.types.Grammar.{Grammar}
use Rattle.mh_grammar.proofs.Lists.{recursion-weaker, recursion_contains, recursion-from}
use Rattle.mh_items_kernels.specs.KernelTypes.{KernelItem, Kernel}
use Rattle.mh_items_kernels.specs.Automaton.{start_kernel}
use Rattle.mh_tabfile_form.specs.declared.types.RawItem.{RawItem}
use Rattle.mh_tabfile_form.specs.declared.types.RawTable.{RawTable}
use Rattle.mh_validate_valid.proofs.KernelUnique.{same_items}
use Rattle.mh_validate_valid.specs.Valid.{AreTokenNamesDistinct, HasKernel, HasOnlyEndIfStart, raw_state}
use Rattle.mh_validate.specs.code.LooksAndItems.{AreItemsOf, MayHaveItems, IsNonStartItem}

abbrev kernel_from : List KernelItem → Kernel
kernel_from items = record { items = items }

at_end_start : (g : Grammar) (s : ℕ) → AllByRecursion (HasOnlyEndIfStart g) (start_kernel s).items
at_end_start g s = (λ low. refl, tt)

pub kernel_has : (g : Grammar) (raw : RawTable) (s : ℕ) (raws : List RawItem) (items : List KernelItem) → raws ≡ (raw_state raw s).items → AreItemsOf g raws items → MayHaveItems g s items → HasKernel g raw s (kernel_from items)
kernel_has g raw s raws items e h m = record {
  spelled = sym e ∙ h.spelled;
  kernel = record {
    kernel = record { items = h.each; rising = h.rising };
    filled = elim (cases_lt s (length g.starts)) [ inl low ↦ subst (λ (is : List KernelItem). 0 < length is) (sym (m.start low)) (omega arith) | inr high ↦ m.some high ];
    at_end = elim (cases_lt s (length g.starts)) [
      | inl low ↦ subst (AllByRecursion (HasOnlyEndIfStart g)) (sym (m.start low)) (at_end_start g s)
      | inr high ↦ recursion-weaker (IsNonStartItem g) (HasOnlyEndIfStart g) (λ i is. is.at_end) items (m.moved high)
    ];
    start = λ low. ap kernel_from (m.start low);
    moved = λ high. recursion-weaker (IsNonStartItem g) (λ (i : KernelItem). 0 < i.dot) (λ i is. is.moved) items (m.moved high);
  };
}

pub has_items : (g : Grammar) (raw : RawTable) (s : ℕ) (raws : List RawItem) (k : Kernel) → raws ≡ (raw_state raw s).items → HasKernel g raw s k → AreItemsOf g raws k.items
has_items g raw s raws k e h = record { spelled = e ∙ h.spelled; each = h.kernel.kernel.items; rising = h.kernel.kernel.rising }

pub has_may : (g : Grammar) (raw : RawTable) (s : ℕ) (k : Kernel) → HasKernel g raw s k → MayHaveItems g s k.items
has_may g raw s k h = record {
  start = λ low. ap (λ (x : Kernel). x.items) (h.kernel.start low);
  some = λ high. h.kernel.filled;
  moved = λ high. recursion-from (IsNonStartItem g) k.items (λ i c. record { at_end = recursion_contains (HasOnlyEndIfStart g) k.items h.kernel.at_end i c; moved = recursion_contains (λ (x : KernelItem). 0 < x.dot) k.items (h.kernel.moved high) i c });
}

-- Lemmas on the items that can be the kernel of a state: for start states and for others.

pub may_start : (g : Grammar) (s : ℕ) (items : List KernelItem) (r : Bool) → s < length g.starts → (IsTrue r ↔ (items ≡ (start_kernel s).items)) → IsTrue r ↔ MayHaveItems g s items
may_start g s items r low e = (λ t. record { start = λ _. e.0 t; some = λ high. absurd (omega (arith, low, high)); moved = λ high. absurd (omega (arith, low, high)) }, λ m. e.1 (m.start low))

pub may_moved : (g : Grammar) (s : ℕ) (items : List KernelItem) (r : Bool) → length g.starts ≤ s → 0 < length items → (IsTrue r ↔ AllByRecursion (IsNonStartItem g) items) → IsTrue r ↔ MayHaveItems g s items
may_moved g s items r high some e = (λ t. record { start = λ low. absurd (omega (arith, low, high)); some = λ _. some; moved = λ _. e.0 t }, λ m. e.1 (m.moved high))

pub may_not : (g : Grammar) (s : ℕ) (items : List KernelItem) → length g.starts ≤ s → (length items == 0) ≡ true → IsTrue false ↔ MayHaveItems g s items
may_not g s [] high e = (λ t. absurd (true≢false (sym t)), λ m. absurd (let some = m.some high in omega arith))
may_not g s (i ∷ items) high e = absurd (let none : length (i ∷ items) ≡ 0 = eqb-true (length (i ∷ items)) 0 e in omega (arith, none))

pub never_has : (g : Grammar) → AreTokenNamesDistinct g → (raw : RawTable) (s : ℕ) (raws : List RawItem) (items : List KernelItem) → raws ≡ (raw_state raw s).items → AreItemsOf g raws items → (MayHaveItems g s items → ⊥) → (k : Kernel) → HasKernel g raw s k → ⊥
never_has g apart raw s raws items e h none k has =
    let same : items ≡ k.items = same_items g apart items k.items h.each has.kernel.kernel.items (sym h.spelled ∙ e ∙ has.spelled) in
    none (subst (MayHaveItems g s) (sym same) (has_may g raw s k has))
