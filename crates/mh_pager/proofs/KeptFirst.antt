-- Lemmas on the start states, added one after another.
use Rattle.std.proofs.Common.{◌≡◌, ◌+◌, ℕ, List, [], ◌∷◌, ◌++◌, Some, sym, ap, ◌∙◌, arith, inl, inr}
use Rattle.std.specs.List.{slice_get, range_with_len}
use Rattle.mh_grammar.specs.Placed.{Placed}
use Rattle.mh_pager.proofs.StartNumbers.{range_push, range_from}

pub placed_next : (old new : List ℕ) (s n : ℕ) → old ≡ range_with_len 0 s → Placed old new s n → new ≡ range_with_len 0 (s + 1)
placed_next old new s n e p = elim p.grown [
  | inl g ↦ absurd (
      let at : slice_get (range_with_len 0 s) n ≡ Some s = rw (sym e ∙ sym g.0) p.at in
      let is = range_from s n s at in
      omega arith)
  | inr g ↦ g.0 ∙ ap (λ xs. xs ++ s ∷ []) e ∙ range_push s
]
