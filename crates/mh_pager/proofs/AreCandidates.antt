-- Lemmas on the search through the states that have the core of a move.
use Rattle.std.proofs.Common.{◌≡◌, ◌+◌, ◌<◌, ◌≤◌, ℕ, List, Some, length, get_or, refl, sym, ap, ◌∙◌, arith, inl, inr}
use Rattle.std.specs.List.{slice_get}
use Rattle.std.proofs.lemmas.Bool.{cases_eq}
use Rattle.std.proofs.lemmas.Option.{slice_get_read, slice_get-get_or, slice_get_within}
use Rattle.mh_grammar.specs.Plain.{PlainGrammar}
use Rattle.mh_grammar.proofs.Lists.{contains_at}
use Rattle.mh_items_kernels.specs.KernelTypes.{Kernel}
use Rattle.mh_items_kernels.specs.Kernels.{Holds, IsItemList}
use Rattle.mh_pager.specs.WeakCompatibility.{HaveSameCore}
use Rattle.mh_pager.specs.code.Cores.{AreCandidates}
use Rattle.mh_pager.specs.FirstState.{IsFirst, HasNoneWith}
use Rattle.mh_pager.proofs.HaveSameCore.{first_of, none_of, one_core}

-- None of the first n candidates has the property.
abbrev pub NoneBefore : (Kernel → Type 0) → List Kernel → List ℕ → ℕ → Type 0
NoneBefore P kernels states n = (j m : ℕ) (h : Kernel) → j < n → slice_get states j ≡ Some m → slice_get kernels m ≡ Some h → P h → ⊥

-- The data of a search: the states, the candidates, and the property.
pub record Search : Type 0 where
  pub g : PlainGrammar
  pub kernels : List Kernel
  pub move : Kernel
  pub states : List ℕ
  pub each : (n : ℕ) (k : Kernel) → slice_get kernels n ≡ Some k → IsItemList g k
  pub valid : IsItemList g move
  pub candidates : AreCandidates kernels move states

abbrev pub number_at : Search → ℕ → ℕ
number_at s i = get_or s.states i 0

-- Candidate i of the search is a state with the kernel k.
pub record IsCandidateAt (s : Search) (i : ℕ) (k : Kernel) : Type 0 where
  pub here : slice_get s.states i ≡ Some (number_at s i)
  pub at : slice_get s.kernels (number_at s i) ≡ Some k
  pub valid : IsItemList s.g k
  pub core : HaveSameCore (Holds k) (Holds s.move)

module _ (s : Search) where
  pub candidate_at : (i : ℕ) (k : Kernel) → i < length s.states → k ≡ get_or s.kernels (get_or s.states i 0) k → IsCandidateAt s i k
  candidate_at i k lt is =
      let n = get_or s.states i 0 in
      let here : slice_get s.states i ≡ Some n = slice_get-get_or s.states i 0 lt in
      let at : slice_get s.kernels n ≡ Some k = slice_get_read s.kernels (length s.kernels) n k refl (s.candidates.within i 0 lt) is in
      let valid = s.each n k at in
      record { here = here; at = at; valid = valid; core = one_core s.g k s.move valid s.valid (s.candidates.only n k (contains_at s.states i n here) at) }

  module _ (P : Kernel → Type 0) (has_core : (k : Kernel) → P k → HaveSameCore (Holds k) (Holds s.move)) where
    -- The first candidate with the property is the first state with it.
    pub first_candidate : (i : ℕ) (k : Kernel) (it : IsCandidateAt s i k) → P k → NoneBefore P s.kernels s.states i → IsFirst P s.kernels (number_at s i) k
    first_candidate i k it has none = first_of s.g s.kernels s.move s.states s.each s.valid s.candidates P has_core i (number_at s i) k it.here it.at has none

    -- A candidate without the property is skipped.
    pub none_before_step : (i : ℕ) (k : Kernel) → IsCandidateAt s i k → (P k → ⊥) → NoneBefore P s.kernels s.states i → NoneBefore P s.kernels s.states (i + 1)
    none_before_step i k it not none j m h l e f p = elim (cases_eq j i) [
      | inl same ↦ (
          let one : Some (number_at s i) ≡ Some m = sym it.here ∙ ap (slice_get s.states) (sym same) ∙ e in
          let number : number_at s i ≡ m = cc in
          let two : Some k ≡ Some h = sym it.at ∙ ap (slice_get s.kernels) number ∙ f in
          let is : h ≡ k = cc in
          not (rw is at p))
      | inr other ↦ none j m h (omega arith) e f p
    ]

    -- At the end of the search, no state has the property.
    pub none_in_all : (i : ℕ) → length s.states ≤ i → NoneBefore P s.kernels s.states i → HasNoneWith P s.kernels
    none_in_all i end none = none_of s.g s.kernels s.move s.states s.each s.valid s.candidates P has_core (λ j m h e f p. none j m h (omega (arith, slice_get_within s.states j m e)) e f p)
