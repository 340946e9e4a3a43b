-- Lemmas on the elements of an increasing list that pass a test, and on their images.
use Rattle.std.proofs.Common.{◌≡◌, ◌∙◌, Bool, true, false, List, [], ◌∷◌, map, refl, sym, ap, inl, inr, subst}
use Rattle.std.specs.List.{filter, AllByRecursion, Contains}
use Rattle.std.proofs.lemmas.Bool.{cases_Bool, both_ways}
use Rattle.mh_grammar.specs.Edges.{IsRising}
use Rattle.mh_grammar.proofs.Lists.{contains_here, contains_there, contains_cases, contains_none, recursion-from, recursion_contains}

module _ {X : Type 0} (test : X → Bool) where
  filter_yes : (x : X) (xs : List X) → test x ≡ true → filter test (x ∷ xs) ≡ x ∷ filter test xs
  filter_yes x xs e = rw e refl

  filter_no : (x : X) (xs : List X) → test x ≡ false → filter test (x ∷ xs) ≡ filter test xs
  filter_no x xs e = rw e refl

  pub filter_contains : (xs : List X) (x : X) → Contains (filter test xs) x → Contains xs x × (test x ≡ true)
  filter_contains [] x c = absurd (contains_none x c)
  filter_contains (y ∷ xs) x c = elim (cases_Bool (test y)) [
    | inl e ↦ elim (contains_cases y (filter test xs) x (subst (λ ys. Contains ys x) (filter_yes y xs e) c)) [
      | inl same ↦ (subst (λ z. Contains (y ∷ xs) z) same (contains_here y xs), ap test (sym same) ∙ e)
      | inr d ↦ (let h = filter_contains xs x d in (contains_there y xs x h.0, h.1))
    ]
    | inr e ↦ (let h = filter_contains xs x (subst (λ ys. Contains ys x) (filter_no y xs e) c) in (contains_there y xs x h.0, h.1))
  ]

  pub contains_filter : (xs : List X) (x : X) → Contains xs x → test x ≡ true → Contains (filter test xs) x
  contains_filter [] x c e = absurd (contains_none x c)
  contains_filter (y ∷ xs) x c e = elim (cases_Bool (test y)) [
    | inl h ↦ subst (λ ys. Contains ys x) (sym (filter_yes y xs h)) (elim (contains_cases y xs x c) [
      | inl same ↦ subst (λ z. Contains (y ∷ filter test xs) z) same (contains_here y (filter test xs))
      | inr d ↦ contains_there y (filter test xs) x (contains_filter xs x d e)
    ])
    | inr h ↦ subst (λ ys. Contains ys x) (sym (filter_no y xs h)) (elim (contains_cases y xs x c) [
      | inl same ↦ absurd (both_ways (test y) h (ap test same ∙ e))
      | inr d ↦ contains_filter xs x d e
    ])
  ]

  pub rising_filter : (R : X → X → Type 0) (xs : List X) → IsRising R xs → IsRising R (filter test xs)
  rising_filter R [] h = tt
  rising_filter R (x ∷ xs) h = elim (cases_Bool (test x)) [
    | inl e ↦ subst (IsRising R) (sym (filter_yes x xs e)) (recursion-from (R x) (filter test xs) (λ y c. recursion_contains (R x) xs h.0 y (filter_contains xs y c).0), rising_filter R xs h.1)
    | inr e ↦ subst (IsRising R) (sym (filter_no x xs e)) (rising_filter R xs h.1)
  ]

-- The images of an increasing list are increasing.
module _ {X Y : Type 0} (f : X → Y) (R : X → X → Type 0) (S : Y → Y → Type 0) (keeps : (x y : X) → R x y → S (f x) (f y)) where
  below_map : (x : X) (xs : List X) → AllByRecursion (R x) xs → AllByRecursion (S (f x)) (map f xs)
  below_map x [] h = tt
  below_map x (y ∷ xs) h = (keeps x y h.0, below_map x xs h.1)

  pub rising_map : (xs : List X) → IsRising R xs → IsRising S (map f xs)
  rising_map [] h = tt
  rising_map (x ∷ xs) h = (below_map x xs h.0, rising_map xs h.1)
