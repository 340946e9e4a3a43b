-- Proves that `by_left_side` files each production under its left side.
use Rattle.std.proofs.Common.{◌≡◌, ℕ, zero, suc, ◌<◌, ◌≤◌, ◌+◌, ◌-◌, inl, inr, List, [], ◌∷◌, Some, get_or, length, refl, arith, ◌∙◌}
use Rattle.std.specs.Prelude.{slice_get}
use Rattle.mh_tables_core.specs.Facts.{Facts}
use Rattle.std.proofs.lemmas.Bool.{cases_lt}
use Rattle.mh_grammar.specs.Plain.{lhs_of, production_count}
use Rattle.mh_grammar.proofs.Lists.{contains_none}
use Rattle.mh_tables_core.specs.Table.{TableData}
use Rattle.mh_facts.specs.declared.left_sides.ByLeftSide.{ByLeftSide}
use Rattle.mh_facts.specs.code.Queues.{row_of, AddsToRow}
use Rattle.mh_facts.specs.code.ByLeftSide.{IsByLeftSideBelow}

pub IsByLeftSideBelow-start : (t : TableData) (left : ByLeftSide) → length left.rows.items ≡ t.grammar.nonterminals → ((n : ℕ) → row_of left.rows.items n ≡ []) → IsByLeftSideBelow t (length t.grammar.starts) left
IsByLeftSideBelow-start t left rows none = record {
  rows = rows;
  all = λ n p h lt. absurd (let o = h.ordinary in omega arith);
  only = λ n p there. absurd (contains_none p (rw (none n) at there));
}

pub IsByLeftSideBelow-step : (t : TableData) (p : ℕ) (old new : ByLeftSide) → length t.grammar.starts ≤ p → p < production_count t.grammar → IsByLeftSideBelow t p old → AddsToRow old.rows.items new.rows.items (lhs_of t.grammar p) p → IsByLeftSideBelow t (p + 1) new
IsByLeftSideBelow-step t p old new ordinary known h f = record {
  rows = f.rows ∙ h.rows;
  all = λ n q is lt. elim (cases_lt q p) [
    | inl less ↦ f.kept n q (h.all n q is less)
    | inr ge ↦ (let e : q ≡ p = omega arith in let row : lhs_of t.grammar p ≡ n = rw e at is.lhs in rw (e, ← row) f.added)
  ];
  only = λ n q there. elim (f.only n q there) [
    | inl was ↦ h.only n q was
    | inr is ↦ record { ordinary = rw is.1 ordinary; known = rw is.1 known; lhs = rw (is.1, is.0) refl }
  ];
}

get_below : {X : Type 0} (xs : List X) (n : ℕ) → n < length xs → (x : X) × (slice_get xs n ≡ Some x) × ((d : X) → get_or xs n d ≡ x)
get_below [] n lt = absurd (omega arith)
get_below (x ∷ xs) zero lt = (x, refl, λ d. refl)
get_below (x ∷ xs) (suc n) lt = get_below xs n (omega arith)

-- The left side of an ordinary production is a nonterminal of the grammar.
pub known_left : (t : TableData) (f : Facts t) (p : ℕ) → length t.grammar.starts ≤ p → p < production_count t.grammar → lhs_of t.grammar p < t.grammar.nonterminals
unfolding lhs_of
known_left t f p ordinary known =
    let lt : p - length t.grammar.starts < length t.grammar.productions = omega arith in
    let q = get_below t.grammar.productions (p - length t.grammar.starts) lt in
    let ok = f.ranges.grammar.productions (p - length t.grammar.starts) q.0 lt in
    let one : get_or t.grammar.productions (p - length t.grammar.starts) q.0 ≡ q.0 = q.2 q.0 in
    let l : q.0.lhs < t.grammar.nonterminals = rw one at ok.lhs in
    rw q.1 l
