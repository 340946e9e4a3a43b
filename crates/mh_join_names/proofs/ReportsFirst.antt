-- Lemmas on searches for the first fault in a list of faults.
use Rattle.std.proofs.Common.{◌≡◌, ℕ, ◌+◌, ◌<◌, List, [], ◌∷◌, ◌++◌, Some, None, Ok, Err, Result, length, get_or, drop, sym, ap, subst, ◌∙◌, ◌⊎◌, inl, inr, arith}
use Rattle.std.specs.List.{flat_map, enumerate_from}
use Rattle.mh_grammar.proofs.Lists.{drop_step}
use Rattle.mh_join_names.specs.declared.fault.JoinFault.{JoinFault}
use Rattle.mh_join_names.specs.declared.fault.JoinFault.TheVariants as faults
use Rattle.mh_join_names.specs.Faults.{ReportsFirst, first}

-- The fault e is the first of the list, or reports that memory ran out.
abbrev pub IsFirstOrMemory : List JoinFault → JoinFault → Type 0
IsFirstOrMemory es e = (e ≡ faults.Memory) ⊎ (first es ≡ Some e)

pub first_then : (es fs : List JoinFault) (e : JoinFault) → IsFirstOrMemory es e → IsFirstOrMemory (es ++ fs) e
first_then es fs e (inl m) = inl m
first_then [] fs e (inr p) = let bad : None ≡ Some e = p in cc
first_then (x ∷ es) fs e (inr p) = inr p

pub finds_then : {X : Type 0} (es fs : List JoinFault) (r : Result X JoinFault) → es ≡ [] → ReportsFirst fs r → ReportsFirst (es ++ fs) r
finds_then es fs r e h = subst (λ k. ReportsFirst (k ++ fs) r) (sym e) h

module _ {A : Type 0} (f : A → List JoinFault) (xs : List A) (i : ℕ) (x : A) (h : i < length xs) (at : x ≡ get_or xs i x) (so_far : flat_map f (drop i xs) ≡ flat_map f xs) where
  here : f x ++ flat_map f (drop (i + 1) xs) ≡ flat_map f xs
  here = ap (flat_map f) (sym (drop_step xs i x h at)) ∙ so_far

  pub finds_more : f x ≡ [] → flat_map f (drop (i + 1) xs) ≡ flat_map f xs
  finds_more e = ap (λ k. k ++ flat_map f (drop (i + 1) xs)) (sym e) ∙ here

  pub finds_err : (e : JoinFault) → IsFirstOrMemory (f x) e → IsFirstOrMemory (flat_map f xs) e
  finds_err e p = subst (λ k. IsFirstOrMemory k e) here (first_then (f x) (flat_map f (drop (i + 1) xs)) e p)

module _ {A : Type 0} (f : ℕ × A → List JoinFault) (xs : List A) (n i j : ℕ) (x : A) (h : i < length xs) (at : x ≡ get_or xs i x) (place : n + i ≡ j) (so_far : flat_map f (enumerate_from (n + i) (drop i xs)) ≡ flat_map f (enumerate_from n xs)) where
  here_at : f (j, x) ++ flat_map f (enumerate_from (n + (i + 1)) (drop (i + 1) xs)) ≡ flat_map f (enumerate_from n xs)
  here_at =
      ap (λ k. f (k, x) ++ flat_map f (enumerate_from (n + (i + 1)) (drop (i + 1) xs))) (sym place)
      ∙ ap (λ k. f (n + i, x) ++ flat_map f (enumerate_from k (drop (i + 1) xs))) (let e : n + (i + 1) ≡ n + i + 1 = omega arith in e)
      ∙ ap (λ k. flat_map f (enumerate_from (n + i) k)) (sym (drop_step xs i x h at)) ∙ so_far

  pub finds_more_at : f (j, x) ≡ [] → flat_map f (enumerate_from (n + (i + 1)) (drop (i + 1) xs)) ≡ flat_map f (enumerate_from n xs)
  finds_more_at e = ap (λ k. k ++ flat_map f (enumerate_from (n + (i + 1)) (drop (i + 1) xs))) (sym e) ∙ here_at

  pub finds_err_at : (e : JoinFault) → IsFirstOrMemory (f (j, x)) e → IsFirstOrMemory (flat_map f (enumerate_from n xs)) e
  finds_err_at e p = subst (λ k. IsFirstOrMemory k e) here_at (first_then (f (j, x)) (flat_map f (enumerate_from (n + (i + 1)) (drop (i + 1) xs))) e p)
