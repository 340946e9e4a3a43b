-- Sets of keys that gain what the elements of a list give, one element after another.
use Rattle.std.proofs.Common.{◌≡◌, ◌↔◌, ◌⊎◌, ◌<◌, ◌≤◌, ◌+◌, ℕ, List, [], ◌∷◌, get_or, inl, inr, length, subst, sym, take}
use Rattle.std.specs.List.{Contains}
use Rattle.std.proofs.lemmas.List.{take_all}
use Rattle.std.proofs.lemmas.List.Elements.{Contains-append_left}
use Rattle.mh_grammar.proofs.Lists.{contains_last, contains_none, take_step, take_step_cases}

module _ {K X : Type 0} (P : X → K → Type 0) where
  -- The keys are the old ones and those that P gives for the elements.
  abbrev pub Gains : List K → List K → List X → Type 0
  Gains old new xs = (k : K) → Contains new k ↔ (Contains old k ⊎ ((x : X) × Contains xs x × P x k))

  pub gains_none : (old : List K) → Gains old old []
  gains_none old k = (λ c. inl c, λ h. elim h [ inl c ↦ c | inr g ↦ absurd (contains_none g.0 g.1) ])

  -- What one more element gives is added.
  pub gains_next : (old mid new : List K) (xs : List X) (i : ℕ) (x : X) → i < length xs → x ≡ get_or xs i x → Gains old mid (take i xs) → ((k : K) → Contains new k ↔ (Contains mid k ⊎ P x k)) → Gains old new (take (i + 1) xs)
  gains_next old mid new xs i x lt at h puts k = (
    λ c. elim ((puts k).0 c) [
      | inl m ↦ (elim ((h k).0 m) [ inl o ↦ inl o | inr g ↦ inr (g.0, rw (take_step xs i x lt at) (Contains-append_left (take i xs) (x ∷ []) g.0 g.1), g.2) ])
      | inr p ↦ inr (x, rw (take_step xs i x lt at) (contains_last (take i xs) x), p)
    ],
    λ g. elim g [
      | inl o ↦ (puts k).1 (inl ((h k).1 (inl o)))
      | inr y ↦ (elim (take_step_cases xs i x lt at y.0 y.1) [
        | inl c ↦ (puts k).1 (inl ((h k).1 (inr (y.0, c, y.2))))
        | inr e ↦ (puts k).1 (inr (subst (λ (z : X). P z k) (sym e) y.2))
      ])
    ],
  )

  -- All elements have been seen.
  pub gains_all : (old new : List K) (xs : List X) (i : ℕ) → length xs ≤ i → Gains old new (take i xs) → Gains old new xs
  gains_all old new xs i le h = subst (λ (ys : List X). Gains old new ys) (take_all i xs le) h
