-- Lemmas on a state's list of edges and on the search for a symbol in this list.
use Rattle.std.proofs.Common.{◌≡◌, ℕ, List, [], ◌∷◌, Some, refl, sym, subst}
use Rattle.std.specs.List.{Contains}
use Rattle.mh_grammar.specs.declared.types.Symbol.{Symbol}
use Rattle.mh_grammar.specs.declared.edges.Edge.{Edge}
use Rattle.mh_grammar.specs.Edges.{IsRising, IsSymbolBefore, IsEdgeBefore, find_edge}
use Rattle.mh_grammar.proofs.Lists.{cons_same, at_contains, contains_map, map_contains, rising_same, recursion-from, recursion_contains}
use Rattle.mh_grammar.proofs.EdgeOrder.{edge_found, symbol_order_asymmetric, found_in}
use Rattle.mh_items_kernels.specs.Collection.{edge_symbols, targets_of}

-- The symbols rise if the edges rise.
pub symbols_rise : (es : List Edge) → IsRising IsEdgeBefore es → IsRising IsSymbolBefore (edge_symbols es)
symbols_rise [] h = tt
symbols_rise (e ∷ es) (h, hs) = (recursion-from (IsSymbolBefore e.symbol) (edge_symbols es) (λ x c. let (f, at, is) = map_contains (λ (k : Edge). k.symbol) es x c in rw (← is) (recursion_contains (IsEdgeBefore e) es h f at)), symbols_rise es hs)

pub on_symbol : (es : List Edge) → IsRising IsEdgeBefore es → (x : Symbol) → Contains (edge_symbols es) x → (u : ℕ) × (find_edge es x ≡ Some u)
on_symbol es h x c =
    let (e, at, is) = map_contains (λ (k : Edge). k.symbol) es x c in
    let (k, there) = at_contains es e at in
    (e.target, subst (λ y. find_edge es y ≡ Some e.target) is (edge_found es k e h there))

pub has_symbol : (es : List Edge) (x : Symbol) (u : ℕ) → find_edge es x ≡ Some u → Contains (edge_symbols es) x
has_symbol es x u h = contains_map (λ (k : Edge). k.symbol) es (record { symbol = x; target = u }) (found_in es x u h)

no_more : (e : Edge) (es : List Edge) → [] ≡ edge_symbols (e ∷ es) → ⊥
no_more e es h = cc

-- Two lists of edges with equal symbols and equal targets are equal.
pub rows_same : (es fs : List Edge) → edge_symbols es ≡ edge_symbols fs → targets_of es ≡ targets_of fs → es ≡ fs
rows_same [] [] h k = refl
rows_same [] (f ∷ fs) h k = absurd (no_more f fs h)
rows_same (e ∷ es) [] h k = absurd (no_more e es (sym h))
rows_same (e ∷ es) (f ∷ fs) h k =
    let on : e.symbol ≡ f.symbol = cc in
    let to : e.target ≡ f.target = cc in
    let on_rest : edge_symbols es ≡ edge_symbols fs = cc in
    let to_rest : targets_of es ≡ targets_of fs = cc in
    let rest = rows_same es fs on_rest to_rest in
    let first : record { symbol = e.symbol; target = e.target } ≡ record { symbol = f.symbol; target = f.target } = rw (on, to) refl in
    cons_same e f es fs first rest

-- Two rising lists of the same symbols are equal.
pub symbols_unique : (xs ys : List Symbol) → IsRising IsSymbolBefore xs → IsRising IsSymbolBefore ys → ((x : Symbol) → Contains xs x → Contains ys x) → ((x : Symbol) → Contains ys x → Contains xs x) → xs ≡ ys
symbols_unique xs ys h k l r = rising_same IsSymbolBefore symbol_order_asymmetric xs ys h k (λ x. (l x, r x))

-- Two rising lists of edges on the same symbols have equal lists of symbols.
pub same_symbols : (es fs : List Edge) → IsRising IsEdgeBefore es → IsRising IsEdgeBefore fs → ((x : Symbol) → Contains (edge_symbols es) x → Contains (edge_symbols fs) x) → ((x : Symbol) → Contains (edge_symbols fs) x → Contains (edge_symbols es) x) → edge_symbols es ≡ edge_symbols fs
same_symbols es fs h k l r = symbols_unique (edge_symbols es) (edge_symbols fs) (symbols_rise es h) (symbols_rise fs k) l r
