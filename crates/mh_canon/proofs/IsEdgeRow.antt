-- Lemmas on rows of edges: the edge on a symbol, and the properties of a new row.
use Rattle.std.proofs.Common.{◌≡◌, ℕ, ◌↔◌, Bool, true, false, List, [], ◌∷◌, Some, map, refl, sym, ◌∙◌, inl, inr, if◌then◌else◌}
use Rattle.std.specs.List.{slice_get, AllByRecursion, AllZip, Contains}
use Rattle.std.proofs.lemmas.Bool.Decides.{Decides-eqb}
use Rattle.mh_grammar.specs.declared.types.Symbol.{Symbol}
use Rattle.mh_grammar.specs.declared.types.Symbol.TheVariants.{T, N}
use Rattle.mh_grammar.specs.declared.types.Look.{Look}
use Rattle.mh_grammar.specs.declared.edges.Edge.{Edge}
use Rattle.mh_grammar.specs.Plain.{PlainGrammar, rhs_of}
use Rattle.mh_grammar.specs.Edges.{IsRising, IsSymbolBefore, IsEdgeBefore, same_symbol, find_edge}
use Rattle.mh_grammar.specs.ItemSets as items
use Rattle.mh_grammar.specs.ItemSets.{AreSameItems, Close, Moved}
use Rattle.mh_grammar.specs.Numbering.{AreNumbersOf}
use Rattle.mh_grammar.proofs.NumberingInvariant.{AllPlaced-numbers}
use Rattle.mh_items_kernels.specs.KernelTypes.{Items, Kernel}
use Rattle.mh_items_kernels.specs.Kernels.{Holds}
use Rattle.mh_items_kernels.specs.Collection.{HasItem, targets_of}
use Rattle.mh_canon.specs.code.FoundStates.{AreStateEdges}
use Rattle.mh_items_kernels.specs.code.KernelMoves.{IsAfterDot, IsMove}
use Rattle.mh_grammar.proofs.EdgeOrder.{equal_from_same}
use Rattle.mh_grammar.proofs.Lists.{contains_cases, contains_none, get_from_drop}
use Rattle.mh_canon.proofs.ItemSets.{AreSameItems-trans, AreSameItems-sym, HasItem-same, Moved-same}

pub same_symbol_if_equal : (a b : Symbol) → a ≡ b → same_symbol a b ≡ true
same_symbol_if_equal (T a) (T b) e = (Decides-eqb a b).1 cc
same_symbol_if_equal (T a) (N b) e = cc
same_symbol_if_equal (N a) (T b) e = cc
same_symbol_if_equal (N a) (N b) e = (Decides-eqb a b).1 cc

-- Edges with rising symbols are rising.
pub rising_edges : (row : List Edge) → IsRising IsSymbolBefore (map (λ (e : Edge). e.symbol) row) → IsRising IsEdgeBefore row
rising_edges [] r = tt
rising_edges (e ∷ row) r = (below row r.0, rising_edges row r.1)
  where
    below : (row : List Edge) → AllByRecursion (IsSymbolBefore e.symbol) (map (λ (f : Edge). f.symbol) row) → AllByRecursion (IsEdgeBefore e) row
    below [] a = tt
    below (f ∷ row) a = (a.0, below row a.1)

-- An edge that is found leads to the move on its symbol.
found_move : (g : PlainGrammar) (closed : Items) (kernels : List Kernel) (row : List Edge) (moves : List Kernel) → AllZip (IsMove g closed) (map (λ (e : Edge). e.symbol) row) moves → AreNumbersOf kernels (targets_of row) moves → (X : Symbol) (u : ℕ) → find_edge row X ≡ Some u → (k : Kernel) × (slice_get kernels u ≡ Some k) × IsMove g closed X k
found_move g closed kernels [] moves each names X u e = cc
found_move g closed kernels (f ∷ row) [] each names X u e = absurd each
found_move g closed kernels (f ∷ row) (k ∷ moves) each names X u e = go (same_symbol f.symbol X) refl e (found_move g closed kernels row moves each.1 names.1 X u)
  where
    go : (b : Bool) → same_symbol f.symbol X ≡ b → (if b then Some f.target else find_edge row X) ≡ Some u → (find_edge row X ≡ Some u → (m : Kernel) × (slice_get kernels u ≡ Some m) × IsMove g closed X m) → (m : Kernel) × (slice_get kernels u ≡ Some m) × IsMove g closed X m
    go true s t rest =
        let to : f.target ≡ u = cc in
        let on = equal_from_same f.symbol X s in
        (k, rw to at names.0, rw on at each.0)
    go false s t rest = rest t

-- A row has an edge on each of its symbols.
pub find_edge-contains : (row : List Edge) (X : Symbol) → Contains (map (λ (e : Edge). e.symbol) row) X → (u : ℕ) × (find_edge row X ≡ Some u)
find_edge-contains [] X c = absurd (contains_none X c)
find_edge-contains (f ∷ row) X c = go (same_symbol f.symbol X) refl (find_edge-contains row X)
  where
    go : (b : Bool) → same_symbol f.symbol X ≡ b → (Contains (map (λ (e : Edge). e.symbol) row) X → (u : ℕ) × (find_edge row X ≡ Some u)) → (u : ℕ) × ((if b then Some f.target else find_edge row X) ≡ Some u)
    go true s rest = (f.target, refl)
    go false s rest = elim (contains_cases f.symbol (map (λ (e : Edge). e.symbol) row) X c) [
      | inl e ↦ absurd (let t = same_symbol_if_equal f.symbol X e in let u : true ≡ false = sym t ∙ s in cc)
      | inr d ↦ rest d
    ]

-- The row holds the edges of a state: they rise, each leads to the moved items, and there is one for each symbol that
-- moves an item.
pub record IsEdgeRow (g : PlainGrammar) (kernels : List Kernel) (k : Kernel) (row : List Edge) : Type 0 where
  pub rising : IsRising IsEdgeBefore row
  pub targets_are : (X : Symbol) (u : ℕ) → find_edge row X ≡ Some u → (m : Kernel) × (slice_get kernels u ≡ Some m) × AreSameItems (Holds m) (Moved g (Close g (Holds k)) X)
  pub all : (X : Symbol) → HasItem (Moved g (Close g (Holds k)) X) → (u : ℕ) × (find_edge row X ≡ Some u)

pub IsEdgeRow-kept : (g : PlainGrammar) (old new : List Kernel) (k : Kernel) (row : List Edge) → ((i : ℕ) (m : Kernel) → slice_get old i ≡ Some m → slice_get new i ≡ Some m) → IsEdgeRow g old k row → IsEdgeRow g new k row
IsEdgeRow-kept g old new k row kept r = record {
  rising = r.rising;
  targets_are = λ X u e. let m = r.targets_are X u e in (m.0, kept u m.0 m.1, m.2);
  all = r.all;
}

-- If a symbol moves an item of a closure, it is after a dot.
pub after_dot_of_moved : (g : PlainGrammar) (closed : Items) (X : Symbol) (p d : ℕ) (a : Look) → Moved g (Holds closed) X p d a → IsAfterDot g closed X
after_dot_of_moved g closed X p d a (items.Moved.moved {d = d'} {y} h e) = record {
  production = p;
  dot = d';
  place = (h.0, h.1, h.2, h.3);
  at_dot = get_from_drop (rhs_of g p) d' X y e;
}

pub IsEdgeRow-new : (g : PlainGrammar) (k : Kernel) (closed : Items) (symbols : List Symbol) (old new : List Kernel) (row : List Edge) → AreSameItems (Holds closed) (Close g (Holds k)) → IsRising IsSymbolBefore symbols → ((X : Symbol) → Contains symbols X ↔ IsAfterDot g closed X) → AreStateEdges g closed symbols old new row → IsEdgeRow g new k row
IsEdgeRow-new g k closed symbols old new row same rising exact e = record {
  rising = rising_edges row (rw (← e.symbols_are) at rising);
  targets_are = λ X u f.
      let m = found_move g closed new row e.moves (rw (← e.symbols_are) at e.each) (AllPlaced-numbers old new e.moves (targets_of row) e.placed) X u f in
      (m.0, m.1, AreSameItems-trans (Holds m.0) (Moved g (Holds closed) X) (Moved g (Close g (Holds k)) X) m.2.same (Moved-same g (Holds closed) (Close g (Holds k)) X same));
  all = λ X h.
      let here = HasItem-same (Moved g (Close g (Holds k)) X) (Moved g (Holds closed) X) (AreSameItems-sym (Moved g (Holds closed) X) (Moved g (Close g (Holds k)) X) (Moved-same g (Holds closed) (Close g (Holds k)) X same)) h in
      let c = (exact X).1 (after_dot_of_moved g closed X here.production here.dot here.look here.holds) in
      find_edge-contains row X (rw (← e.symbols_are) at c);
}
