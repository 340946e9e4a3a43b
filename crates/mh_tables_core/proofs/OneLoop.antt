-- Proves that the first relative run that makes more than `MAX_REDUCTIONS` reductions is unique. A relative run makes
-- reductions from a start state alone, or above a state as long as this state is not removed.
use Rattle.std.proofs.Common.{◌≡◌, ℕ, ◌<◌, ◌⊎◌, inl, inr, Some, None, Option, refl, ap, arith}
use Rattle.std.proofs.lemmas.Bool.{cases_lt}
use Rattle.mh_tables_core.specs.Table.{TableData}
use Rattle.mh_tables_core.specs.Halting.{IsOptionBefore, IsFirstLoop}

-- The order of optional numbers is total.
before_or : (a b : Option ℕ) → IsOptionBefore a b ⊎ ((a ≡ b) ⊎ IsOptionBefore b a)
before_or None None = inr (inl refl)
before_or None (Some b) = inl tt
before_or (Some a) None = inr (inr tt)
before_or (Some a) (Some b) =
    elim (cases_lt a b) [
      | inl less ↦ inl less
      | inr more ↦ (elim (cases_lt b a) [
        | inl less ↦ inr (inr less)
        | inr same ↦ inr (inl (let e : a ≡ b = omega arith in ap (λ (n : ℕ). Some n) e))
      ])
    ]

same_below : (t : TableData) (below : Option ℕ) (s : ℕ) (look below' : Option ℕ) (s' : ℕ) (look' : Option ℕ) → IsFirstLoop t below s look → IsFirstLoop t below' s' look' → below ≡ below'
same_below t below s look below' s' look' h h' =
    elim (before_or below below') [
      | inl less ↦ absurd (h'.no_lower below s less h.begins look h.known h.loops)
      | inr more ↦ (elim more [
        | inl same ↦ same
        | inr less ↦ absurd (h.no_lower below' s' less h'.begins look' h'.known h'.loops)
      ])
    ]

same_state : (t : TableData) (below : Option ℕ) (s : ℕ) (look : Option ℕ) (s' : ℕ) (look' : Option ℕ) → IsFirstLoop t below s look → IsFirstLoop t below s' look' → s ≡ s'
same_state t below s look s' look' h h' =
    elim (cases_lt s s') [
      | inl less ↦ absurd (h'.no_earlier_state s less h.begins look h.known h.loops)
      | inr more ↦ (elim (cases_lt s' s) [
        | inl less ↦ absurd (h.no_earlier_state s' less h'.begins look' h'.known h'.loops)
        | inr same ↦ omega arith
      ])
    ]

same_look : (t : TableData) (below : Option ℕ) (s : ℕ) (look look' : Option ℕ) → IsFirstLoop t below s look → IsFirstLoop t below s look' → look ≡ look'
same_look t below s look look' h h' =
    elim (before_or look look') [
      | inl less ↦ absurd (h'.no_earlier_look look less h.known h.loops)
      | inr more ↦ (elim more [
        | inl same ↦ same
        | inr less ↦ absurd (h.no_earlier_look look' less h'.known h'.loops)
      ])
    ]

-- A table has at most one first relative run that makes more than `MAX_REDUCTIONS` reductions.
pub loop_unique : (t : TableData) (below : Option ℕ) (s : ℕ) (look below' : Option ℕ) (s' : ℕ) (look' : Option ℕ) → IsFirstLoop t below s look → IsFirstLoop t below' s' look' → (below ≡ below') × (s ≡ s') × (look ≡ look')
loop_unique t below s look below' s' look' h h' =
    let b : below ≡ below' = same_below t below s look below' s' look' h h' in
    let h1 : IsFirstLoop t below s' look' = rw (← b) at h' in
    let e : s ≡ s' = same_state t below s look s' look' h h1 in
    let h2 : IsFirstLoop t below s look' = rw (← e) at h1 in
    (b, e, same_look t below s look look' h h2)
