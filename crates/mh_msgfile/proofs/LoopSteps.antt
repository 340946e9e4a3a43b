-- Lemmas on loops that write one item after another.
use Rattle.std.proofs.Common.{◌≡◌, ◌+◌, ◌≤◌, ℕ, List, ◌∷◌, ◌++◌, length, drop, sym, ap, ◌∙◌, append_assoc, append-nil}
use Rattle.std.specs.List.{flat_map}
use Rattle.std.proofs.lemmas.List.{drop_all}

module _ {A B : Type 0} (f : A → List B) (xs : List A) (i : ℕ) (all now : List B) (so_far : now ++ flat_map f (drop i xs) ≡ all) where
  -- The invariant after one more item is written.
  pub written_next : (x : A) (next : List B) → drop i xs ≡ x ∷ drop (i + 1) xs → next ≡ now ++ f x → next ++ flat_map f (drop (i + 1) xs) ≡ all
  written_next x next split writes =
      ap (λ (t : List B). t ++ flat_map f (drop (i + 1) xs)) writes ∙ append_assoc now (f x) (flat_map f (drop (i + 1) xs)) ∙ ap (λ (l : List A). now ++ flat_map f l) (sym split) ∙ so_far

  -- When no item is left, everything is written.
  pub written_all : length xs ≤ i → now ≡ all
  written_all le = sym (append-nil now) ∙ ap (λ (l : List A). now ++ flat_map f l) (sym (drop_all i xs le)) ∙ so_far
