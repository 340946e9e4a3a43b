-- Lemmas on lists whose elements are appended one at a time, each with a property of its index.
use Rattle.std.proofs.Common.{◌≡◌, ◌<◌, ◌+◌, ◌++◌, ℕ, List, [], ◌∷◌, length, sym, ap, ◌∙◌, subst, arith, inl, inr}
use Rattle.std.specs.Prelude.{slice_index_or}
use Rattle.std.proofs.lemmas.Bool.{cases_lt}
use Rattle.std.proofs.lemmas.List.{length-append, get_or_append_left, get_or_at}

pub each_more : {X : Type 0} (P : ℕ → X → Type 0) (xs : List X) (x d : X) (n : ℕ) → length xs ≡ n → ((s : ℕ) → s < n → P s (slice_index_or xs s d)) → P n x → (s : ℕ) → s < n + 1 → P s (slice_index_or (xs ++ x ∷ []) s d)
each_more P xs x d n len each here s lt = elim (cases_lt s n) [
  | inl before ↦ subst (P s) (sym (get_or_append_left xs (x ∷ []) d s (omega (arith, len, before)))) (each s before)
  | inr past ↦ (let e : n ≡ s = omega (arith, past, lt) in subst (λ k. P k (slice_index_or (xs ++ x ∷ []) k d)) e (subst (P n) (sym (get_or_at xs x [] d n len)) here))
]

pub count_more : {X : Type 0} (xs ys : List X) (x : X) (n : ℕ) → length xs ≡ n → ys ≡ xs ++ x ∷ [] → length ys ≡ n + 1
count_more xs ys x n len e = ap length e ∙ length-append xs (x ∷ []) ∙ ap (λ k. k + 1) len

pub pushed : {X : Type 0} (P : ℕ → X → Type 0) (xs ys : List X) (x d : X) (n : ℕ) → length xs ≡ n → ys ≡ xs ++ x ∷ [] → ((s : ℕ) → s < n → P s (slice_index_or xs s d)) → P n x → (s : ℕ) → s < n + 1 → P s (slice_index_or ys s d)
pushed P xs ys x d n len e each here s lt = subst (λ zs. P s (slice_index_or zs s d)) (sym e) (each_more P xs x d n len each here s lt)
