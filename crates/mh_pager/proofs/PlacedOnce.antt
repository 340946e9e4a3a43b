-- Proves, as a double negation, that for each move there is a state to which a step of merging adds its items.
use Rattle.mh_pager.specs.code.ReachedByMerging.{IsWellFormed}
use Rattle.mh_pager.specs.FirstState.{HasNoneWith, IsFirst}
use Rattle.std.proofs.Common.{◌≡◌, ℕ, zero, suc, ◌+◌, ◌<◌, ◌≤◌, ◌⊎◌, inl, inr, List, [], ◌∷◌, ◌++◌, Some, length, set, refl, sym, ap, subst, ◌∙◌, arith, below_more}
use Rattle.std.specs.List.{slice_get, Contains}
use Rattle.std.proofs.lemmas.Option.{slice_get_within}
use Rattle.mh_grammar.specs.declared.types.Look.{Look}
use Rattle.mh_grammar.specs.Plain.{PlainGrammar, IsInRange}
use Rattle.mh_grammar.specs.ItemSets.{ItemSet}
use Rattle.mh_grammar.proofs.Lists.{get_within}
use Rattle.mh_items_kernels.specs.KernelTypes.{Kernel}
use Rattle.mh_items_kernels.specs.Kernels.{Holds, IsItemList}
use Rattle.mh_pager.specs.MergeSteps.{MergeState, ContainsMove, IsCompatibleWithMove, PlacesMove, Enqueues}
use Rattle.mh_grammar.specs.NotLacking.{NotLacking}
use Rattle.mh_grammar.proofs.NotLacking.{given, chain, decided}
use Rattle.mh_canon.proofs.ListedKernels.{HasItemsInRange, listed}
use Rattle.mh_canon.proofs.MovedKernels.{kernel_in}

module _ (P : Kernel → Type 0) (kernels : List Kernel) where
  abbrev Found : ℕ → Type 0
  Found m = ((n : ℕ) × (k : Kernel) × IsFirst P kernels n k) ⊎ ((i : ℕ) (j : Kernel) → i < m → slice_get kernels i ≡ Some j → P j → ⊥)

  step : (m : ℕ) (k : Kernel) → slice_get kernels m ≡ Some k → Found m → P k ⊎ (P k → ⊥) → Found (suc m)
  step m k at (inl f) d = inl f
  step m k at (inr none) (inl p) = inl (m, k, record { at = at; holds = p; earlier = none })
  step m k at (inr none) (inr not) = inr (λ i j l e p. below_more (λ (i : ℕ). (j : Kernel) → slice_get kernels i ≡ Some j → P j → ⊥) m (λ i l j e p. none i j l e p) (λ j e p. let one : Some j ≡ Some k = sym e ∙ at in let same : j ≡ k = cc in not (subst P same p)) i (omega arith) j e p)

  search_to : (m : ℕ) → m ≤ length kernels → NotLacking (Found m)
  search_to zero l = given (inr (λ i j l e p. absurd (omega arith)))
  search_to (suc m) l =
      let k = get_within kernels m (omega arith) in
      chain (search_to m (omega arith)) (λ f. chain (decided (P k.0)) (λ d. given (step m k.0 k.1 f d)))

  pub find : NotLacking (((n : ℕ) × (k : Kernel) × IsFirst P kernels n k) ⊎ HasNoneWith P kernels)
  find = chain (search_to (length kernels) (omega arith)) (λ f. elim f [
    | inl found ↦ given (inl found)
    | inr none ↦ given (inr (λ i j e p. none i j (slice_get_within kernels i j e) e p))
  ])

queued : (old : List ℕ) (n : ℕ) → Contains old n ⊎ (Contains old n → ⊥) → (new : List ℕ) × Enqueues old n new
queued old n (inl c) = (old, inl (c, refl))
queued old n (inr not) = (old ++ n ∷ [], inr (not, refl))

module _ (g : PlainGrammar) (range : IsInRange g) where
  both_in : (k move : Kernel) → IsItemList g k → IsItemList g move → HasItemsInRange g (λ p d a. Holds k p d a ⊎ Holds move p d a)
  both_in k move v w p d a (inl h) = kernel_in g range k v p d a h
  both_in k move v w p d a (inr h) = kernel_in g range move w p d a h

  abbrev Put : Kernel → MergeState → Type 0
  Put move old = (n : ℕ) × (new : MergeState) × PlacesMove g move old new n

  appends : (move : Kernel) (old : MergeState) → HasNoneWith (ContainsMove move) old.kernels → HasNoneWith (IsCompatibleWithMove move) old.kernels → Put move old
  appends move old unkept untaken = (
    length old.kernels,
    record { kernels = old.kernels ++ move ∷ []; rows = old.rows ++ [] ∷ []; queue = old.queue ++ length old.kernels ∷ [] },
    inr (inr (record { none_contains = unkept; none_compatible = untaken; last = refl; kernels = refl; rows = refl; queue = refl })),
  )

  joins : (move : Kernel) (old : MergeState) → IsItemList g move → HasNoneWith (ContainsMove move) old.kernels → (n : ℕ) (k : Kernel) → IsFirst (IsCompatibleWithMove move) old.kernels n k → IsItemList g k → NotLacking (Put move old)
  joins move old v unkept n k first of_k = chain (listed g (λ p d a. Holds k p d a ⊎ Holds move p d a) (both_in k move of_k v)) (λ j. chain (decided (Contains old.queue n)) (λ d.
      let q = queued old.queue n d in
      given (
        n,
        record { kernels = set old.kernels n j.0; rows = old.rows; queue = q.0 },
        inr (inl (record { kernel = k; joined = j.0; none_contains = unkept; first = first; valid = j.1; join = j.2; kernels = refl; rows = refl; queue = q.1 })),
      )))

  pub put : (move : Kernel) (old : MergeState) → IsItemList g move → IsWellFormed g old → NotLacking (Put move old)
  put move old v ready = chain (find (ContainsMove move) old.kernels) (λ f. elim f [
    | inl kept ↦ given (kept.0, old, inl (record { kernel = kept.1; first = kept.2; same = refl }))
    | inr unkept ↦ chain (find (IsCompatibleWithMove move) old.kernels) (λ t. elim t [
      | inl taken ↦ joins move old v unkept taken.0 taken.1 taken.2 (ready.valid taken.0 taken.1 taken.2.at)
      | inr untaken ↦ given (appends move old unkept untaken)
    ])
  ])
