-- Lemmas on the orders of symbols, edges and lookahead symbols. In a rising list of edges, `find_edge` finds each edge
-- by its symbol.
use Rattle.std.proofs.Common.{◌≡◌, ℕ, zero, suc, ◌+◌, ◌<◌, ◌≤◌, ◌⊎◌, List, [], ◌∷◌, Some, None, true, false, length, refl, ap, arith, inl, inr}
use Rattle.std.proofs.lemmas.Bool.Decides.{nat_tests}
use Rattle.std.proofs.lemmas.Bool.{cases_Bool, cases_eq, cases_lt}
use Rattle.std.proofs.lemmas.Option.{slice_get_within}
use Rattle.std.specs.List.{slice_get, Contains}
use Rattle.mh_grammar.specs.declared.types.Symbol.{Symbol}
use Rattle.mh_grammar.specs.declared.types.Symbol.TheVariants.{T, N}
use Rattle.mh_grammar.specs.declared.types.Look.{Look}
use Rattle.mh_grammar.specs.declared.types.Look.TheVariants.{Token, End}
use Rattle.mh_grammar.specs.declared.edges.Edge.{Edge}
use Rattle.mh_grammar.proofs.Lists.{contains_there, recursion_at, rising_at}
use Rattle.mh_grammar.specs.Edges.{IsRising, IsEdgeBefore, IsLookBefore, IsSymbolBefore, same_symbol, find_edge}

pub look_order_asymmetric : (a b : Look) → IsLookBefore a b → IsLookBefore b a → ⊥
look_order_asymmetric (Token a) (Token b) h k = omega arith
look_order_asymmetric (Token a) End h k = k
look_order_asymmetric End b h k = h

pub equal_look_or_not : (a b : Look) → (a ≡ b) ⊎ (a ≡ b → ⊥)
equal_look_or_not (Token y) (Token z) = elim (cases_eq y z) [ inl e ↦ inl (ap Token e) | inr n ↦ inr (λ e. n (let s : y ≡ z = cc in s)) ]
equal_look_or_not (Token y) End = inr (λ e. cc)
equal_look_or_not End (Token z) = inr (λ e. cc)
equal_look_or_not End End = inl refl

pub symbol_order_asymmetric : (x y : Symbol) → IsSymbolBefore x y → IsSymbolBefore y x → ⊥
symbol_order_asymmetric (T a) (T b) h k = omega arith
symbol_order_asymmetric (T a) (N b) h k = k
symbol_order_asymmetric (N a) (T b) h k = h
symbol_order_asymmetric (N a) (N b) h k = omega arith

pub same_symbol_refl : (x : Symbol) → same_symbol x x ≡ true
same_symbol_refl (T a) = grind (arith, nat_tests)
same_symbol_refl (N a) = grind (arith, nat_tests)

pub before_not_same : (x y : Symbol) → IsSymbolBefore x y → same_symbol x y ≡ false
before_not_same (T a) (T b) h = grind (arith, nat_tests)
before_not_same (T a) (N b) h = refl
before_not_same (N a) (T b) h = refl
before_not_same (N a) (N b) h = grind (arith, nat_tests)

-- `find_edge` finds each edge of a rising list by its symbol.
pub edge_found : (es : List Edge) (k : ℕ) (e : Edge) → IsRising IsEdgeBefore es → slice_get es k ≡ Some e → find_edge es e.symbol ≡ Some e.target
edge_found [] k e h g = absurd (let n = slice_get_within [] k e g in omega arith)
edge_found (d ∷ es) zero e h g = let i : d ≡ e = cc in rw i (rw (same_symbol_refl e.symbol) refl)
edge_found (d ∷ es) (suc k) e h g =
    rw (before_not_same d.symbol e.symbol (recursion_at (IsEdgeBefore d) es h.0 k e g)) (edge_found es k e h.1 g)

pub not_same_sym : (x y : Symbol) → same_symbol x y ≡ false → same_symbol y x ≡ false
not_same_sym (T a) (T b) h = grind (arith, nat_tests)
not_same_sym (T a) (N b) h = refl
not_same_sym (N a) (T b) h = refl
not_same_sym (N a) (N b) h = grind (arith, nat_tests)

pub after_not_same : (x y : Symbol) → IsSymbolBefore x y → same_symbol y x ≡ false
after_not_same x y h = not_same_sym x y (before_not_same x y h)

pub equal_from_same : (x y : Symbol) → same_symbol x y ≡ true → x ≡ y
equal_from_same (T a) (T b) h = ap T (grind (arith, nat_tests))
equal_from_same (T a) (N b) h = cc
equal_from_same (N a) (T b) h = cc
equal_from_same (N a) (N b) h = ap N (grind (arith, nat_tests))

-- The edge that `find_edge` finds is an element of the list.
pub found_in : (es : List Edge) (x : Symbol) (u : ℕ) → find_edge es x ≡ Some u → Contains es (record { symbol = x; target = u })
found_in [] x u h = cc
found_in (e ∷ es) x u h = elim (cases_Bool (same_symbol e.symbol x)) [
  | inl same ↦ (let on : e.symbol ≡ x = equal_from_same e.symbol x same in let h2 : Some e.target ≡ Some u = rw same at h in let to : e.target ≡ u = cc in
      let whole : e ≡ record { symbol = x; target = u } = (let both : record { symbol = e.symbol; target = e.target } ≡ record { symbol = x; target = u } = rw (on, to) refl in both) in (0, omega arith, whole))
  | inr other ↦ contains_there e es (record { symbol = x; target = u }) (found_in es x u (rw other at h))
]

pub before_trans : (x y z : Symbol) → IsSymbolBefore x y → IsSymbolBefore y z → IsSymbolBefore x z
before_trans (T a) (T b) (T c) h k = omega arith
before_trans (T a) (T b) (N c) h k = tt
before_trans (T a) (N b) (T c) h k = absurd k
before_trans (T a) (N b) (N c) h k = tt
before_trans (N a) (T b) z h k = absurd h
before_trans (N a) (N b) (T c) h k = absurd k
before_trans (N a) (N b) (N c) h k = omega arith

pub before_otherwise : (x y : Symbol) → same_symbol x y ≡ false → (IsSymbolBefore x y → ⊥) → IsSymbolBefore y x
before_otherwise (T a) (T b) e n = grind (arith, nat_tests)
before_otherwise (T a) (N b) e n = absurd (n tt)
before_otherwise (N a) (T b) e n = tt
before_otherwise (N a) (N b) e n = grind (arith, nat_tests)

-- If no edge has the symbol, `find_edge` finds none.
none_found : (es : List Edge) (x : Symbol) → ((k : ℕ) (e : Edge) → slice_get es k ≡ Some e → same_symbol e.symbol x ≡ false) → find_edge es x ≡ None
none_found [] x h = refl
none_found (d ∷ es) x h = rw (h 0 d refl) (none_found es x (λ k e g. h (suc k) e g))

-- The invariant of the binary search: all edges before `low` have lesser symbols, and all edges from `high` on have
-- greater ones.
pub record Between (es : List Edge) (x : Symbol) (low high : ℕ) : Type 0 where
  pub order : low ≤ high
  pub within : high ≤ length es
  pub below : (k : ℕ) (e : Edge) → k < low → slice_get es k ≡ Some e → IsSymbolBefore e.symbol x
  pub above : (k : ℕ) (e : Edge) → high ≤ k → slice_get es k ≡ Some e → IsSymbolBefore x e.symbol

pub between_all : (es : List Edge) (x : Symbol) → Between es x 0 (length es)
between_all es x = record {
  order = omega arith;
  within = omega arith;
  below = λ k e l g. absurd (let n : ⊥ = omega (arith, l) in n);
  above = λ k e l g. absurd (let n : ⊥ = omega (arith, l, slice_get_within es k e g) in n);
}

module _ (es : List Edge) (x : Symbol) (low high middle : ℕ) (e : Edge) (rising : IsRising IsEdgeBefore es) (b : Between es x low high) (l : low ≤ middle) (m : middle < high) (at : slice_get es middle ≡ Some e) where
  pub between_above : IsSymbolBefore e.symbol x → Between es x (middle + 1) high
  between_above h = record {
    order = omega arith;
    within = b.within;
    below = λ k f i g. elim (cases_eq k middle) [
      | inl same ↦ (let one : f ≡ e = cc in rw one h)
      | inr other ↦ before_trans f.symbol e.symbol x (rising_at IsEdgeBefore es rising k middle f e (omega arith) g at) h
    ];
    above = b.above;
  }

  pub between_below : IsSymbolBefore x e.symbol → Between es x low middle
  between_below h = record {
    order = l;
    within = omega (arith, b.within);
    below = b.below;
    above = λ k f i g. elim (cases_eq k middle) [
      | inl same ↦ (let one : f ≡ e = cc in rw one h)
      | inr other ↦ before_trans x e.symbol f.symbol h (rising_at IsEdgeBefore es rising middle k e f (omega arith) at g)
    ];
  }

pub none_between : (es : List Edge) (x : Symbol) (low high : ℕ) → Between es x low high → high ≤ low → find_edge es x ≡ None
none_between es x low high b h = none_found es x (λ k e g. elim (cases_lt k low) [
  | inl l ↦ before_not_same e.symbol x (b.below k e l g)
  | inr l ↦ after_not_same x e.symbol (b.above k e (omega arith) g)
])
