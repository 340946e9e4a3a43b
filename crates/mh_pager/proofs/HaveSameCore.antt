-- Lemmas on kernels with one core, and on the first state with this core.
use Rattle.std.proofs.Common.{◌≡◌, ◌<◌, ℕ, List, Some, ap, sym, ◌∙◌, arith, inl, inr}
use Rattle.std.specs.List.{slice_get}
use Rattle.std.proofs.lemmas.Bool.{cases_lt, cases_eq}
use Rattle.mh_grammar.specs.Plain.{PlainGrammar}
use Rattle.mh_grammar.proofs.Lists.{at_contains, rising_at}
use Rattle.mh_items_kernels.specs.KernelTypes.{Kernel}
use Rattle.mh_items_kernels.specs.Kernels.{Holds, IsItemList}
use Rattle.mh_pager.specs.WeakCompatibility.{HaveSameCore}
use Rattle.mh_pager.specs.code.Cores.{core_of, IsBefore, AreCandidates}
use Rattle.mh_pager.specs.code.ItemLists.{HaveSameCoreList}
use Rattle.mh_pager.specs.FirstState.{IsFirst, HasNoneWith}
use Rattle.mh_pager.proofs.HaveSameCoreList.{paired_if_cores_equal, cores_equal, paired_core}

-- Two kernels with equal lists of core items have the same productions and dots at each index.
pub core_paired_with : (k m : Kernel) → core_of k ≡ core_of m → HaveSameCoreList k.items m.items
core_paired_with k m e = paired_if_cores_equal k.items m.items (ap (λ (c : Kernel). c.items) e)

pub one_core : (g : PlainGrammar) (k m : Kernel) → IsItemList g k → IsItemList g m → core_of k ≡ core_of m → HaveSameCore (Holds k) (Holds m)
one_core g k m of_k of_m e = paired_core g k m of_k of_m (core_paired_with k m e)

-- Two kernels with one core have equal lists of core items.
pub core_same : (g : PlainGrammar) (k m : Kernel) → IsItemList g k → IsItemList g m → HaveSameCore (Holds k) (Holds m) → core_of k ≡ core_of m
core_same g k m of_k of_m core = let same = cores_equal g k m of_k of_m core in λ i. record { items = same i }

module _ (g : PlainGrammar) (kernels : List Kernel) (move : Kernel) (candidates : List ℕ) (valid : (n : ℕ) (k : Kernel) → slice_get kernels n ≡ Some k → IsItemList g k) (of_move : IsItemList g move) (c : AreCandidates kernels move candidates)
    (P : Kernel → Type 0) (one : (k : Kernel) → P k → HaveSameCore (Holds k) (Holds move)) where
  place : (n : ℕ) (k : Kernel) → slice_get kernels n ≡ Some k → P k → (i : ℕ) × (slice_get candidates i ≡ Some n)
  place n k at p = at_contains candidates n (c.all n k at (core_same g k move (valid n k at) of_move (one k p)))

  -- The first candidate with the property is the first state with it.
  pub first_of : (i n : ℕ) (k : Kernel) → slice_get candidates i ≡ Some n → slice_get kernels n ≡ Some k → P k
      → ((j m : ℕ) (h : Kernel) → j < i → slice_get candidates j ≡ Some m → slice_get kernels m ≡ Some h → P h → ⊥) → IsFirst P kernels n k
  first_of i n k at here p earlier = record { at = here; holds = p; earlier = before }
    where
      before : (m : ℕ) (h : Kernel) → m < n → slice_get kernels m ≡ Some h → P h → ⊥
      before m h l e q =
          let j = place m h e q in
          elim (cases_lt j.0 i) [
            | inl s ↦ earlier j.0 m h s j.1 e q
            | inr s ↦ elim (cases_eq i j.0) [
              | inl t ↦ (let both : Some n ≡ Some m = sym at ∙ ap (slice_get candidates) t ∙ j.1 in let same : n ≡ m = cc in omega arith)
              | inr t ↦ (let r = rising_at IsBefore candidates c.rising i j.0 n m (omega arith) at j.1 in omega arith)
            ]
          ]

  pub none_of : ((j m : ℕ) (h : Kernel) → slice_get candidates j ≡ Some m → slice_get kernels m ≡ Some h → P h → ⊥) → HasNoneWith P kernels
  none_of none m h e q = let j = place m h e q in none j.0 m h j.1 e q
