-- Lemmas on the loop that collects the missing states.
use Rattle.std.proofs.Common.{◌≡◌, ◌+◌, ◌-◌, ◌<◌, ◌≤◌, ℕ, suc, Bool, true, false, List, [], ◌∷◌, ◌++◌, filter, Option, length, refl, sym, ap, ◌∙◌, arith, append_assoc, append-nil}
use Rattle.mh_msgfile.specs.Messages.{numbers_from}
use Rattle.mh_check.specs.Compiling.{is_missing, missing}

numbers_step : (n p : ℕ) → p < n → numbers_from p (n - p) ≡ p ∷ numbers_from (p + 1) (n - (p + 1))
numbers_step n p lt = let e : n - p ≡ suc (n - (p + 1)) = omega arith in ap (numbers_from p) e

numbers_none : (n p : ℕ) → n ≤ p → numbers_from p (n - p) ≡ []
numbers_none n p le = let e : n - p ≡ 0 = omega arith in ap (numbers_from p) e

module _ (left right : List (Option (List ℕ))) where
  abbrev pub MissingSoFar : List ℕ → ℕ → Type 0
  MissingSoFar states p = states ++ filter (is_missing left right) (numbers_from p (length left - p)) ≡ missing left right

  filtered : (s : ℕ) (more : List ℕ) (c : Bool) → is_missing left right s ≡ c → filter (is_missing left right) (s ∷ more) ≡ filter (is_missing left right) (s ∷ []) ++ filter (is_missing left right) more
  filtered s more true is = rw is refl
  filtered s more false is = rw is refl

  pub missing_step : (states new : List ℕ) (p : ℕ) → p < length left → new ≡ states ++ filter (is_missing left right) (p ∷ []) → MissingSoFar states p → MissingSoFar new (p + 1)
  missing_step states new p lt added so_far =
      let more = numbers_from (p + 1) (length left - (p + 1)) in
      ap (λ (l : List ℕ). l ++ filter (is_missing left right) more) added ∙ append_assoc states (filter (is_missing left right) (p ∷ [])) (filter (is_missing left right) more)
      ∙ ap (λ (l : List ℕ). states ++ l) (sym (filtered p more (is_missing left right p) refl) ∙ ap (filter (is_missing left right)) (sym (numbers_step (length left) p lt))) ∙ so_far

  pub missing_all : (states : List ℕ) (p : ℕ) → length left ≤ p → MissingSoFar states p → states ≡ missing left right
  missing_all states p le so_far =
      sym (ap (λ (l : List ℕ). states ++ l) (ap (filter (is_missing left right)) (numbers_none (length left) p le)) ∙ append-nil states) ∙ so_far
