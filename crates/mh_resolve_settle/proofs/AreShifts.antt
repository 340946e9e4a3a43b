-- Lemmas on the shifts of the tokens, edge by edge.
use Rattle.std.proofs.Common.{◌≡◌, ℕ, ◌<◌, ◌+◌, ◌⊎◌, List, [], ◌∷◌, length, drop, get_or, set, replicate, eqb, Option, Some, None, false, refl, ap, sym, ◌∙◌, arith, inl, inr}
use Rattle.std.specs.List.{slice_get}
use Rattle.std.proofs.lemmas.Bool.Decides.{nat_tests}
use Rattle.std.proofs.lemmas.Bool.{cases_eq}
use Rattle.std.proofs.lemmas.List.{get_or-replicate, get_or-set_same, get_or-set_other, length-set}
use Rattle.mh_grammar.specs.declared.types.Symbol.TheVariants.{T, N}
use Rattle.mh_grammar.specs.declared.edges.Edge.{Edge}
use Rattle.mh_grammar.specs.Edges.{IsRising, IsEdgeBefore, find_edge, same_symbol}
use Rattle.mh_resolve_cells.specs.code.LookTallies.{AreShifts}
use Rattle.mh_resolve_cells.specs.code.StateResults.{AreEdgesKnown}
use Rattle.mh_grammar.proofs.EdgeOrder.{edge_found}

-- The edge on a token was found, or is among the remaining edges.
abbrev pub IsShiftSoFar : List Edge → ℕ → ℕ → Option ℕ → Type 0
IsShiftSoFar edges i z shift = ((shift ≡ None) × (find_edge edges (T z) ≡ find_edge (drop i edges) (T z))) ⊎ ((j : ℕ) × (shift ≡ Some j) × (find_edge edges (T z) ≡ Some j))

pub record AreShiftsSoFar (tokens : ℕ) (edges : List Edge) (i : ℕ) (shifts : List (Option ℕ)) : Type 0 where
  pub len : length shifts ≡ tokens
  pub each : (z : ℕ) → z < tokens → IsShiftSoFar edges i z (get_or shifts z None)

pub none_so_far : (tokens : ℕ) (edges : List Edge) (shifts : List (Option ℕ)) → length shifts ≡ tokens → shifts ≡ replicate tokens None → AreShiftsSoFar tokens edges 0 shifts
none_so_far tokens edges shifts len e = record {
  len = len;
  each = λ z lt. inl (ap (λ xs. get_or xs z None) e ∙ get_or-replicate tokens z None None lt, refl);
}

passed : (edge : Edge) (es : List Edge) (z : ℕ) → same_symbol edge.symbol (T z) ≡ false → find_edge (edge ∷ es) (T z) ≡ find_edge es (T z)
passed edge es z e = rw e refl

-- An edge on a nonterminal keeps the invariant.
pub skipped : (tokens : ℕ) (edges : List Edge) (i n : ℕ) (edge : Edge) (shifts : List (Option ℕ)) → drop i edges ≡ edge ∷ drop (i + 1) edges → edge.symbol ≡ N n → AreShiftsSoFar tokens edges i shifts → AreShiftsSoFar tokens edges (i + 1) shifts
skipped tokens edges i n edge shifts at is a = record {
  len = a.len;
  each = λ z lt. elim (a.each z lt) [
    | inl x ↦ inl (x.0, x.1 ∙ ap (λ es. find_edge es (T z)) at ∙ passed edge (drop (i + 1) edges) z (ap (λ X. same_symbol X (T z)) is))
    | inr x ↦ inr x
  ];
}

-- An edge on a token keeps the invariant, with the shift of the token set.
pub shifted : (tokens : ℕ) (edges : List Edge) (i b : ℕ) (edge : Edge) (shifts : List (Option ℕ)) → IsRising IsEdgeBefore edges → slice_get edges i ≡ Some edge → drop i edges ≡ edge ∷ drop (i + 1) edges → edge.symbol ≡ T b → b < tokens
    → AreShiftsSoFar tokens edges i shifts → AreShiftsSoFar tokens edges (i + 1) (set shifts b (Some edge.target))
shifted tokens edges i b edge shifts rising here at is known a = record {
  len = length-set shifts b (Some edge.target) ∙ a.len;
  each = λ z lt. elim (cases_eq z b) [
    | inl same ↦ inr (
      edge.target,
      ap (λ k. get_or (set shifts b (Some edge.target)) k None) same ∙ get_or-set_same shifts b (Some edge.target) None (let n = a.len in omega arith),
      ap (λ k. find_edge edges (T k)) same ∙ ap (find_edge edges) (sym is) ∙ edge_found edges i edge rising here,
    )
    | inr ne ↦ (
        let old : get_or (set shifts b (Some edge.target)) z None ≡ get_or shifts z None = get_or-set_other shifts b z (Some edge.target) None ne in
        elim (a.each z lt) [
          | inl x ↦ inl (old ∙ x.0, x.1 ∙ ap (λ es. find_edge es (T z)) at ∙ passed edge (drop (i + 1) edges) z (ap (λ X. same_symbol X (T z)) is ∙ apart z ne))
          | inr x ↦ inr (x.0, old ∙ x.1, x.2)
        ])
  ];
}
  where
    apart : (z : ℕ) → (z ≡ b → ⊥) → eqb b z ≡ false
    apart z ne = grind (arith, nat_tests)

-- At the end of the loop the list has the shifts of all edges.
pub all_shifts : (tokens : ℕ) (edges : List Edge) (i : ℕ) (shifts : List (Option ℕ)) → drop i edges ≡ [] → AreShiftsSoFar tokens edges i shifts → AreShifts tokens edges shifts
all_shifts tokens edges i shifts done a = record {
  len = a.len;
  each = λ z lt. elim (a.each z lt) [
    | inl x ↦ x.0 ∙ sym (x.1 ∙ ap (λ es. find_edge es (T z)) done)
    | inr x ↦ x.1 ∙ sym x.2
  ];
}

-- The token of an edge is in range.
pub token_known : (tokens : ℕ) (edges : List Edge) (i b : ℕ) (edge : Edge) → IsRising IsEdgeBefore edges → slice_get edges i ≡ Some edge → edge.symbol ≡ T b → AreEdgesKnown tokens edges → b < tokens
token_known tokens edges i b edge rising here is known = known b edge.target (ap (find_edge edges) (sym is) ∙ edge_found edges i edge rising here)
