-- Lemmas on the flags of the queue.
use Rattle.std.proofs.Common.{◌≡◌, ◌∷◌, ◌++◌, ◌<◌, ℕ, suc, zero, Bool, true, false, List, [], Some, set, length, sym, ◌∙◌, arith, inl, inr, ap}
use Rattle.std.specs.List.{slice_get, Contains}
use Rattle.std.proofs.lemmas.Bool.{cases_eq}
use Rattle.std.proofs.lemmas.List.Elements.{Contains-append_left}
use Rattle.std.proofs.lemmas.Option.{slice_get_within}
use Rattle.mh_grammar.proofs.Lists.{get_left, get_last, get_cases, at_contains, contains_here, contains_there, contains_cases, contains_none, contains_last, contains_push, set_here, set_elsewhere, set_cases}
use Rattle.mh_grammar.proofs.NumberingInvariant.{AreDistinct-push}
use Rattle.mh_pager.specs.code.QueueFlags.{AreFlagged}

pub flagged_none : AreFlagged [] []
flagged_none = record { distinct = record { same = λ i j x e f. cc }; exact = λ n. ((λ c. absurd (contains_none n c)), (λ e. cc)) }

-- The oldest state has a flag.
pub oldest_flag : (states rest : List ℕ) (n : ℕ) (flags : List Bool) → AreFlagged states flags → states ≡ n ∷ rest → n < length flags
oldest_flag states rest n flags f e = slice_get_within flags n true ((f.exact n).0 (rw e (contains_here n rest)))

-- When the oldest state is removed, its flag is cleared.
pub flagged_rest : (n : ℕ) (states : List ℕ) (flags : List Bool) → AreFlagged (n ∷ states) flags → AreFlagged states (set flags n false)
flagged_rest n states flags f = record {
  distinct = record { same = λ i j x e h. let l = f.distinct.same (suc i) (suc j) x e h in omega arith };
  exact = λ m. (
    (λ c. set_elsewhere flags n false m (other m c) ∙ (f.exact m).0 (contains_there n states m c)),
    (λ e. elim (set_cases flags n false m true e) [
      | inl s ↦ (let no : false ≡ true = s.1 in cc)
      | inr s ↦ elim (contains_cases n states m ((f.exact m).1 s.1)) [ inl t ↦ absurd (s.0 (sym t)) | inr t ↦ t ]
    ]),
  );
}
  where
    other : (m : ℕ) → Contains states m → m ≡ n → ⊥
    other m c same =
        let at = at_contains states m c in
        let l = f.distinct.same (suc at.0) zero m at.1 (ap Some (sym same)) in
        omega arith

-- When a new state is appended to the queue, a set flag is appended.
pub flagged_push : (states : List ℕ) (flags : List Bool) → AreFlagged states flags → AreFlagged (states ++ length flags ∷ []) (flags ++ true ∷ [])
flagged_push states flags f = record {
  distinct = AreDistinct-push states (length flags) f.distinct (λ c. let l = slice_get_within flags (length flags) true ((f.exact (length flags)).0 c) in omega arith);
  exact = λ m. (
    (λ c. elim (contains_push states (length flags) m c) [
      | inl s ↦ get_left flags (true ∷ []) m true ((f.exact m).0 s)
      | inr s ↦ get_last flags true m s
    ]),
    (λ e. elim (get_cases flags true m true e) [
      | inl s ↦ Contains-append_left states (length flags ∷ []) m ((f.exact m).1 s)
      | inr s ↦ rw s.0 (contains_last states (length flags))
    ]),
  );
}

-- When a state that is not in the queue is appended, its flag is set.
pub flagged_again : (n : ℕ) (states : List ℕ) (flags : List Bool) → AreFlagged states flags → slice_get flags n ≡ Some false → AreFlagged (states ++ n ∷ []) (set flags n true)
flagged_again n states flags f at = record {
  distinct = AreDistinct-push states n f.distinct (λ c. let e : Some false ≡ Some true = sym at ∙ (f.exact n).0 c in cc);
  exact = λ m. (
    (λ c. elim (contains_push states n m c) [
      | inl s ↦ elim (cases_eq m n) [
        | inl t ↦ rw t (set_here flags n true (slice_get_within flags n false at))
        | inr t ↦ set_elsewhere flags n true m t ∙ (f.exact m).0 s
      ]
      | inr s ↦ rw s (set_here flags n true (slice_get_within flags n false at))
    ]),
    (λ e. elim (set_cases flags n true m true e) [
      | inl s ↦ rw s.0 (contains_last states n)
      | inr s ↦ Contains-append_left states (n ∷ []) m ((f.exact m).1 s.1)
    ]),
  );
}

-- A state whose flag is not set is not in the queue.
pub not_waiting : (n : ℕ) (states : List ℕ) (flags : List Bool) → AreFlagged states flags → slice_get flags n ≡ Some false → Contains states n → ⊥
not_waiting n states flags f at c = let e : Some false ≡ Some true = sym at ∙ (f.exact n).0 c in cc
