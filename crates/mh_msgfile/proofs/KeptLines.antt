-- Lemmas on the loop that collects the numbers of the lines that are not ignored (that do not begin with `#`).
use Rattle.std.proofs.Common.{◌≡◌, ◌+◌, ◌-◌, ◌<◌, ◌≤◌, ℕ, suc, Bool, true, false, List, [], ◌∷◌, ◌++◌, filter, length, refl, sym, ap, ◌∙◌, arith, append_assoc, append-nil}
use Rattle.mh_grammar.specs.Text.{Text}
use Rattle.mh_msgfile.specs.Lines.{is_kept}
use Rattle.mh_msgfile.specs.Messages.{numbers_from, kept_lines}

numbers_step : (n p : ℕ) → p < n → numbers_from (p + 1) (n - p) ≡ (p + 1) ∷ numbers_from (p + 1 + 1) (n - (p + 1))
numbers_step n p lt = let e : n - p ≡ suc (n - (p + 1)) = omega arith in ap (numbers_from (p + 1)) e

numbers_none : (n p : ℕ) → n ≤ p → numbers_from (p + 1) (n - p) ≡ []
numbers_none n p le = let e : n - p ≡ 0 = omega arith in ap (numbers_from (p + 1)) e

module _ (lines : List Text) where
  abbrev pub KeptSoFar : List ℕ → ℕ → Type 0
  KeptSoFar numbers p = numbers ++ filter (is_kept lines) (numbers_from (p + 1) (length lines - p)) ≡ kept_lines lines

  filtered : (number : ℕ) (more : List ℕ) (c : Bool) → is_kept lines number ≡ c → filter (is_kept lines) (number ∷ more) ≡ filter (is_kept lines) (number ∷ []) ++ filter (is_kept lines) more
  filtered number more true is = rw is refl
  filtered number more false is = rw is refl

  pub kept_step : (numbers new : List ℕ) (p number : ℕ) → p < length lines → number ≡ p + 1 → new ≡ numbers ++ filter (is_kept lines) (number ∷ []) → KeptSoFar numbers p → KeptSoFar new (p + 1)
  kept_step numbers new p number lt is added so_far =
      let more = numbers_from (p + 1 + 1) (length lines - (p + 1)) in
      let same : new ≡ numbers ++ filter (is_kept lines) ((p + 1) ∷ []) = added ∙ ap (λ (n : ℕ). numbers ++ filter (is_kept lines) (n ∷ [])) is in
      ap (λ (l : List ℕ). l ++ filter (is_kept lines) more) same ∙ append_assoc numbers (filter (is_kept lines) ((p + 1) ∷ [])) (filter (is_kept lines) more)
      ∙ ap (λ (l : List ℕ). numbers ++ l) (sym (filtered (p + 1) more (is_kept lines (p + 1)) refl) ∙ ap (filter (is_kept lines)) (sym (numbers_step (length lines) p lt))) ∙ so_far

  pub kept_all : (numbers : List ℕ) (p : ℕ) → length lines ≤ p → KeptSoFar numbers p → numbers ≡ kept_lines lines
  kept_all numbers p le so_far =
      sym (ap (λ (l : List ℕ). numbers ++ l) (ap (filter (is_kept lines)) (numbers_none (length lines) p le)) ∙ append-nil numbers) ∙ so_far
