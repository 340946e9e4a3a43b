-- Proves that a grammar has only one canonical automaton.
use Rattle.std.proofs.Common.{◌≡◌, ℕ, zero, suc, ◌<◌, ◌≤◌, ◌↔◌, Bool, true, false, List, [], ◌∷◌, Some, None, length, map, take, refl, sym, ap, ◌∙◌, arith, inl, inr, if◌then◌else◌}
use Rattle.std.specs.List.{slice_get, AllByRecursion, AllZip, Contains}
use Rattle.std.proofs.lemmas.List.{length-map, length-take-le}
use Rattle.std.proofs.lemmas.Bool.{cases_lt}
use Rattle.std.proofs.lemmas.Option.{slice_get_within}
use Rattle.mh_grammar.specs.declared.types.Symbol.{Symbol}
use Rattle.mh_grammar.specs.declared.edges.Edge.{Edge}
use Rattle.mh_grammar.specs.Plain.{PlainGrammar}
use Rattle.mh_grammar.specs.Edges.{IsRising, IsSymbolBefore, IsEdgeBefore, same_symbol, find_edge}
use Rattle.mh_grammar.specs.ItemSets.{AreSameItems, Close, Moved, StartItems, PathItems}
use Rattle.mh_grammar.specs.Numbering as numbering
use Rattle.mh_grammar.specs.Numbering.{Reached, AreNumbersOf, IsTargetRow, IsNumbering}
use Rattle.mh_grammar.proofs.NumberingInvariant.{contains_at, at_contains}
use Rattle.mh_grammar.proofs.NumberingUnique.{numbering_unique, equal_by_elements, take_get}
use Rattle.mh_items_kernels.specs.KernelTypes.{Kernel, Automaton}
use Rattle.mh_items_kernels.specs.Kernels.{Holds, IsItemList}
use Rattle.mh_items_kernels.specs.Automaton.{kernel_at, kernel_of, edges_at, leads_to, move_of}
use Rattle.mh_items_kernels.specs.Collection.{HasItem, targets_of}
use Rattle.mh_canon.specs.Canonical.{IsCanonical}
use Rattle.mh_canon.proofs.IsEdgeRow.{same_symbol_if_equal, find_edge-contains}
use Rattle.mh_canon.proofs.CollectionIsCanonical.{slice_get-kernel_at, kernel_at-slice_get, slice_get-edges_at}
use Rattle.mh_items_kernels.proofs.UniqueItemList.{kernel_same}
use Rattle.mh_grammar.proofs.Lists.{contains_here, contains_there, contains_cases, contains_none, recursion_contains, rising_same, zip_unique}
use Rattle.mh_canon.proofs.ItemSets.{AreSameItems-sym, AreSameItems-trans, HasItem-same, Moved-same, Close-same, HasItem-path}
use Rattle.mh_grammar.proofs.EdgeOrder.{equal_from_same, symbol_order_asymmetric}

symbols_of : List Edge → List Symbol
symbols_of row = map (λ e. e.symbol) row

symbol_apart : (X Y : Symbol) → IsSymbolBefore X Y → X ≡ Y → ⊥
symbol_apart X Y r e = let s = rw (sym e) at r in symbol_order_asymmetric X X s s

-- The symbols of rising edges are rising.
rising_symbols : (row : List Edge) → IsRising IsEdgeBefore row → IsRising IsSymbolBefore (symbols_of row)
unfolding symbols_of
rising_symbols [] r = tt
rising_symbols (e ∷ row) r = (below row r.0, rising_symbols row r.1)
  where
    below : (row : List Edge) → AllByRecursion (IsEdgeBefore e) row → AllByRecursion (IsSymbolBefore e.symbol) (symbols_of row)
    below [] a = tt
    below (f ∷ row) a = (a.0, below row a.1)

-- Each edge of a rising row is the one that `find_edge` finds on its symbol.
own_edge : (row : List Edge) → IsRising IsEdgeBefore row → (e : Edge) → Contains row e → find_edge row e.symbol ≡ Some e.target
own_edge [] r e c = absurd (contains_none e c)
own_edge (f ∷ row) r e c = go (same_symbol f.symbol e.symbol) refl (own_edge row r.1 e)
  where
    go : (b : Bool) → same_symbol f.symbol e.symbol ≡ b → (Contains row e → find_edge row e.symbol ≡ Some e.target) → (if b then Some f.target else find_edge row e.symbol) ≡ Some e.target
    go true s rest = elim (contains_cases f row e c) [
      | inl same ↦ ap (λ (x : Edge). Some x.target) same
      | inr d ↦ absurd (symbol_apart f.symbol e.symbol (recursion_contains (IsEdgeBefore f) row r.0 e d) (equal_from_same f.symbol e.symbol s))
    ]
    go false s rest = elim (contains_cases f row e c) [
      | inl same ↦ absurd (let t = same_symbol_if_equal f.symbol e.symbol (ap (λ (x : Edge). x.symbol) same) in let u : true ≡ false = sym t ∙ s in cc)
      | inr d ↦ rest d
    ]

-- If an edge is found on a symbol, the symbol is among those of the row.
found_symbol : (row : List Edge) (X : Symbol) (u : ℕ) → find_edge row X ≡ Some u → Contains (symbols_of row) X
unfolding symbols_of
found_symbol [] X u e = cc
found_symbol (f ∷ row) X u e = go (same_symbol f.symbol X) refl e (found_symbol row X u)
  where
    go : (b : Bool) → same_symbol f.symbol X ≡ b → (if b then Some f.target else find_edge row X) ≡ Some u → (find_edge row X ≡ Some u → Contains (map (λ (e : Edge). e.symbol) row) X) → Contains (f.symbol ∷ map (λ (e : Edge). e.symbol) row) X
    go true s t rest = rw (sym (equal_from_same f.symbol X s)) (contains_here f.symbol (map (λ (e : Edge). e.symbol) row))
    go false s t rest = contains_there f.symbol (map (λ (e : Edge). e.symbol) row) X (rest t)

record IsMoveOf (g : PlainGrammar) (k : Kernel) (X : Symbol) (m : Kernel) : Type 0 where
  kernel : IsItemList g m
  same : AreSameItems (Holds m) (Moved g (Close g (Holds k)) X)

-- The kernels are the moves of a kernel, in the order of their symbols.
record Next (g : PlainGrammar) (k : Kernel) (ks : List Kernel) : Type 0 where
  symbols : List Symbol
  rising : IsRising IsSymbolBefore symbols
  exact : (X : Symbol) → Contains symbols X ↔ HasItem (Moved g (Close g (Holds k)) X)
  each : AllZip (IsMoveOf g k) symbols ks

one_move : (g : PlainGrammar) (k m n : Kernel) (X : Symbol) → IsMoveOf g k X m → IsMoveOf g k X n → m ≡ n
one_move g k m n X a b = kernel_same g m n a.kernel b.kernel (AreSameItems-trans (Holds m) (Moved g (Close g (Holds k)) X) (Holds n) a.same (AreSameItems-sym (Holds n) (Moved g (Close g (Holds k)) X) b.same))

symbols_same : (P : Symbol → Type 0) (xs ys : List Symbol) → IsRising IsSymbolBefore xs → IsRising IsSymbolBefore ys → ((X : Symbol) → Contains xs X ↔ P X) → ((X : Symbol) → Contains ys X ↔ P X) → xs ≡ ys
symbols_same P xs ys r s p q = rising_same IsSymbolBefore symbol_order_asymmetric xs ys r s (λ X. ((λ c. (q X).1 ((p X).0 c)), (λ c. (p X).1 ((q X).0 c))))

one_next : (g : PlainGrammar) (k : Kernel) (a b : List Kernel) → Next g k a → Next g k b → a ≡ b
one_next g k a b p q =
    let symbols : q.symbols ≡ p.symbols = symbols_same (λ X. HasItem (Moved g (Close g (Holds k)) X)) q.symbols p.symbols q.rising p.rising q.exact p.exact in
    zip_unique (IsMoveOf g k) (λ X m n. one_move g k m n X) p.symbols a b p.each (rw symbols at q.each)

-- Each symbol has a move among the kernels, and each kernel is the move on a symbol.
move_on : (g : PlainGrammar) (k : Kernel) (symbols : List Symbol) (ks : List Kernel) → AllZip (IsMoveOf g k) symbols ks → (X : Symbol) → Contains symbols X → (m : Kernel) × Contains ks m × IsMoveOf g k X m
move_on g k [] ks p X c = absurd (contains_none X c)
move_on g k (Y ∷ symbols) [] p X c = absurd p
move_on g k (Y ∷ symbols) (m ∷ ks) p X c = elim (contains_cases Y symbols X c) [
  | inl e ↦ (m, contains_here m ks, rw e at p.0)
  | inr d ↦ (let r = move_on g k symbols ks p.1 X d in (r.0, contains_there m ks r.0 r.1, r.2))
]

symbol_on : (g : PlainGrammar) (k : Kernel) (symbols : List Symbol) (ks : List Kernel) → AllZip (IsMoveOf g k) symbols ks → (m : Kernel) → Contains ks m → (X : Symbol) × Contains symbols X × IsMoveOf g k X m
symbol_on g k [] [] p m c = absurd (contains_none m c)
symbol_on g k [] (n ∷ ks) p m c = absurd p
symbol_on g k (Y ∷ symbols) [] p m c = absurd p
symbol_on g k (Y ∷ symbols) (n ∷ ks) p m c = elim (contains_cases n ks m c) [
  | inl e ↦ (Y, contains_here Y symbols, rw e at p.0)
  | inr d ↦ (let r = symbol_on g k symbols ks p.1 m d in (r.0, contains_there Y symbols r.0 r.1, r.2))
]

map_get : {X Y : Type 0} (f : X → Y) (xs : List X) (i : ℕ) (y : Y) → slice_get (map f xs) i ≡ Some y → (x : X) × (slice_get xs i ≡ Some x) × (f x ≡ y)
map_get f [] i y e = cc
map_get f (x ∷ xs) zero y e = let same : f x ≡ y = cc in (x, refl, same)
map_get f (x ∷ xs) (suc i) y e = map_get f xs i y e

get_map : {X Y : Type 0} (f : X → Y) (xs : List X) (i : ℕ) (x : X) → slice_get xs i ≡ Some x → slice_get (map f xs) i ≡ Some (f x)
get_map f [] i x e = cc
get_map f (y ∷ xs) zero x e = let same : y ≡ x = cc in ap (λ z. Some (f z)) same
get_map f (y ∷ xs) (suc i) x e = get_map f xs i x e

module _ (g : PlainGrammar) (a : Automaton) (h : IsCanonical g a) where
  -- The symbols of a state's edges are those on which the state moves.
  moving : (s : ℕ) → s < length a.kernels → (X : Symbol) → Contains (symbols_of (edges_at a s)) X ↔ HasItem (move_of g a s X)
  unfolding symbols_of
  moving s l X = (
    (λ c. let u = find_edge-contains (edges_at a s) X c in let m = (h.target s X u.0 u.1).0 in record { production = m.production; dot = m.dot; look = m.look; holds = m.moves }),
    (λ i. let u = h.edge s X l (record { production = i.production; dot = i.dot; look = i.look; moves = i.holds }) in found_symbol (edges_at a s) X u.0 u.1),
  )

  below : Edge → Kernel
  below e = kernel_at a e.target

  zipped : (s : ℕ) (row : List Edge) → ((e : Edge) → Contains row e → leads_to a s e.symbol ≡ Some e.target) → AllZip (IsMoveOf g (kernel_at a s)) (symbols_of row) (map below row) × AreNumbersOf a.kernels (targets_of row) (map below row)
  unfolding symbols_of below
  zipped s [] f = (tt, tt)
  zipped s (e ∷ row) f =
      let t = h.target s e.symbol e.target (f e (contains_here e row)) in
      let rest = zipped s row (λ d c. f d (contains_there e row d c)) in
      ((record { kernel = (h.each e.target t.1).0; same = t.2 }, rest.0), (slice_get-kernel_at a e.target t.1, rest.1))

  next_row : (s : ℕ) → s < length a.kernels → IsTargetRow (Next g) a.kernels (kernel_at a s) (targets_of (edges_at a s))
  next_row s l =
      let z = zipped s (edges_at a s) (λ e c. own_edge (edges_at a s) (h.order s l) e c) in
      record {
        items = map below (edges_at a s);
        next = record { symbols = symbols_of (edges_at a s); rising = rising_symbols (edges_at a s) (h.order s l); exact = moving s l; each = z.0 };
        numbers = z.1;
      }

  module _ (starts : List Kernel) (len : length starts ≡ length g.starts) (begins : take (length g.starts) a.kernels ≡ starts) where
    start_in : (i : ℕ) → i < length g.starts → Contains starts (kernel_at a i)
    start_in i l =
        let here = slice_get-kernel_at a i (h.starts i l).0 in
        rw (← begins) (contains_at (take (length g.starts) a.kernels) i (kernel_at a i) (place_take (length g.starts) a.kernels i (kernel_at a i) l here))
      where
        place_take : {X : Type 0} (n : ℕ) (xs : List X) (i : ℕ) (x : X) → i < n → slice_get xs i ≡ Some x → slice_get (take n xs) i ≡ Some x
        place_take zero xs i x l e = absurd (omega arith)
        place_take (suc n) [] i x l e = cc
        place_take (suc n) (y ∷ xs) zero x l e = e
        place_take (suc n) (y ∷ xs) (suc i) x l e = place_take n xs i x (omega arith) e

    to_reached : (i : ℕ) (path : List Symbol) → i < length g.starts → (k : Kernel) → IsItemList g k → HasItem (Holds k) → AreSameItems (Holds k) (PathItems g i path) → Reached (Next g) starts k
    to_reached i [] l k of_k some same =
        let s = h.starts i l in
        let one : kernel_at a i ≡ k = kernel_same g (kernel_at a i) k (h.each i s.0).0 of_k (AreSameItems-trans (kernel_of a i) (StartItems i) (Holds k) s.1 (AreSameItems-sym (Holds k) (StartItems i) same)) in
        numbering.Reached.start (rw one at (start_in i l))
    to_reached i (X ∷ path) l k of_k some same =
        let s = h.complete i path l (HasItem-path g i X path (HasItem-same (Holds k) (PathItems g i (X ∷ path)) same some)) in
        let y = kernel_at a s.0 in
        let each = h.each s.0 s.1 in
        let before = to_reached i path l y each.0 each.1 s.2 in
        let sets : AreSameItems (PathItems g i (X ∷ path)) (move_of g a s.0 X) = Moved-same g (Close g (PathItems g i path)) (Close g (Holds y)) X (Close-same g (PathItems g i path) (Holds y) (AreSameItems-sym (Holds y) (PathItems g i path) s.2)) in
        let move : AreSameItems (Holds k) (move_of g a s.0 X) = AreSameItems-trans (Holds k) (PathItems g i (X ∷ path)) (move_of g a s.0 X) same sets in
        let row = next_row s.0 s.1 in
        let m = move_on g y row.next.symbols row.items row.next.each X ((row.next.exact X).1 (HasItem-same (Holds k) (move_of g a s.0 X) move some)) in
        let one : m.0 ≡ k = one_move g y m.0 k X m.2 (record { kernel = of_k; same = move }) in
        numbering.Reached.step before row.next (rw one at m.1)

    move_in : (s : ℕ) → s < length a.kernels → (ks : List Kernel) → Next g (kernel_at a s) ks → (k : Kernel) → Contains ks k → Contains a.kernels k
    move_in s l ks n k c =
        let X = symbol_on g (kernel_at a s) n.symbols ks n.each k c in
        let i = (n.exact X.0).0 X.1 in
        let u = h.edge s X.0 l (record { production = i.production; dot = i.dot; look = i.look; moves = i.holds }) in
        let t = h.target s X.0 u.0 u.1 in
        let one : kernel_at a u.0 ≡ k = one_move g (kernel_at a s) (kernel_at a u.0) k X.0 (record { kernel = (h.each u.0 t.1).0; same = t.2 }) X.2 in
        rw one at (contains_at a.kernels u.0 (kernel_at a u.0) (slice_get-kernel_at a u.0 t.1))

    to_contains : (k : Kernel) → Reached (Next g) starts k → Contains a.kernels k
    to_contains k (numbering.Reached.start c) =
        let found = at_contains starts k c in
        contains_at a.kernels found.0 k (take_get (length g.starts) a.kernels found.0 k (rw begins found.1))
    to_contains k (numbering.Reached.step {x = y} {ys} r n c) =
        let found = at_contains a.kernels y (to_contains y r) in
        let here : y ≡ kernel_at a found.0 = sym (kernel_at-slice_get a found.0 y found.1) in
        move_in found.0 (slice_get_within a.kernels found.0 y found.1) ys (rw here at n) k c

    IsNumbering-canonical : IsNumbering (Next g) starts a.kernels (map targets_of a.edges)
    IsNumbering-canonical = record {
      begins = rw len begins;
      reached = λ k. (
        (λ c. let found = at_contains a.kernels k c in
            let l = slice_get_within a.kernels found.0 k found.1 in
            let r = h.sound found.0 l in
            let reached = to_reached r.start r.path r.known (kernel_at a found.0) (h.each found.0 l).0 (h.each found.0 l).1 r.same in
            rw (kernel_at-slice_get a found.0 k found.1) at reached),
        to_contains k,
      );
      distinct = record {
        same = λ i j k e f.
            let one : kernel_at a j ≡ kernel_at a i = kernel_at-slice_get a j k f ∙ sym (kernel_at-slice_get a i k e) in
            h.distinct i j (slice_get_within a.kernels i k e) (slice_get_within a.kernels j k f) (rw one (λ p d look. ((λ x. x), (λ x. x))));
      };
      len = rw length-map h.rows;
      rows = λ s k row e f.
          let edges = map_get targets_of a.edges s row f in
          let l = slice_get_within a.kernels s k e in
          let same : edges_at a s ≡ edges.0 = (let c = slice_get-edges_at a s (slice_get_within a.edges s edges.0 edges.1) in let d = edges.1 in cc) in
          rw (← kernel_at-slice_get a s k e, ← edges.2, ← same) (next_row s l);
      order = rw len h.breadth_first;
    }

-- Two rows of edges with equal symbols and equal targets are equal.
pub edges_unique : (e f : List Edge) → map (λ (x : Edge). x.symbol) e ≡ map (λ (x : Edge). x.symbol) f → targets_of e ≡ targets_of f → e ≡ f
edges_unique [] [] s t = refl
edges_unique [] (y ∷ f) s t = cc
edges_unique (x ∷ e) [] s t = cc
edges_unique (x ∷ e) (y ∷ f) s t =
    let a : x.symbol ≡ y.symbol = cc in
    let b : x.target ≡ y.target = cc in
    let s_rest : map (λ (z : Edge). z.symbol) e ≡ map (λ (z : Edge). z.symbol) f = cc in
    let t_rest : targets_of e ≡ targets_of f = cc in
    let rest = edges_unique e f s_rest t_rest in
    λ i. record { symbol = a i; target = b i } ∷ rest i

take_same : (n : ℕ) (xs ys : List Kernel) → ((i : ℕ) → i < n → slice_get xs i ≡ slice_get ys i) → take n xs ≡ take n ys
take_same zero xs ys h = refl
take_same (suc n) [] [] h = refl
take_same (suc n) [] (y ∷ ys) h = let e : None ≡ Some y = h 0 (omega arith) in cc
take_same (suc n) (x ∷ xs) [] h = let e : Some x ≡ None = h 0 (omega arith) in cc
take_same (suc n) (x ∷ xs) (y ∷ ys) h =
    let e : Some x ≡ Some y = h 0 (omega arith) in
    let same : x ≡ y = cc in
    let rest = take_same n xs ys (λ i l. h (suc i) (omega arith)) in
    λ i. same i ∷ rest i

same_row : (e f : List Edge) → symbols_of e ≡ symbols_of f → targets_of e ≡ targets_of f → e ≡ f
unfolding symbols_of
same_row e f s t = edges_unique e f s t

row_one : (g : PlainGrammar) (a b : Automaton) → IsCanonical g a → IsCanonical g b → a.kernels ≡ b.kernels → map targets_of a.edges ≡ map targets_of b.edges → (s : ℕ) → s < length a.edges → slice_get a.edges s ≡ slice_get b.edges s
row_one g a b h k kernels targets s l =
    let la : s < length a.kernels = omega (arith, h.rows) in
    let lb : s < length b.kernels = omega (arith, ap length kernels) in
    let ea = slice_get-edges_at a s l in
    let eb = slice_get-edges_at b s (omega (arith, k.rows)) in
    let one : kernel_at b s ≡ kernel_at a s = kernel_at-slice_get b s (kernel_at a s) (ap (λ ks. slice_get ks s) (sym kernels) ∙ slice_get-kernel_at a s la) in
    let moving_b : (X : Symbol) → Contains (symbols_of (edges_at b s)) X ↔ HasItem (move_of g a s X) = rw one at (moving g b k s lb) in
    let symbols = symbols_same (λ X. HasItem (move_of g a s X)) (symbols_of (edges_at a s)) (symbols_of (edges_at b s)) (rising_symbols (edges_at a s) (h.order s la)) (rising_symbols (edges_at b s) (k.order s lb)) (moving g a h s la) moving_b in
    let rows : Some (targets_of (edges_at a s)) ≡ Some (targets_of (edges_at b s)) = sym (get_map targets_of a.edges s (edges_at a s) ea) ∙ ap (λ ts. slice_get ts s) targets ∙ get_map targets_of b.edges s (edges_at b s) eb in
    let row : targets_of (edges_at a s) ≡ targets_of (edges_at b s) = cc in
    ea ∙ ap Some (same_row (edges_at a s) (edges_at b s) symbols row) ∙ sym eb

pub canonical_unique : (g : PlainGrammar) (a b : Automaton) → IsCanonical g a → IsCanonical g b → a ≡ b
canonical_unique g a b h k =
    let n = length g.starts in
    let starts = take n a.kernels in
    let first : (i : ℕ) → i < n → slice_get b.kernels i ≡ slice_get a.kernels i = λ i l.
    let s = h.starts i l in
    let t = k.starts i l in
    let one : kernel_at b i ≡ kernel_at a i = kernel_same g (kernel_at b i) (kernel_at a i) (k.each i t.0).0 (h.each i s.0).0 (AreSameItems-trans (kernel_of b i) (StartItems i) (kernel_of a i) t.1 (AreSameItems-sym (kernel_of a i) (StartItems i) s.1)) in
    slice_get-kernel_at b i t.0 ∙ ap Some one ∙ sym (slice_get-kernel_at a i s.0) in
    let begins : take n b.kernels ≡ starts = take_same n b.kernels a.kernels first in
    let enough : n ≤ length a.kernels = elim (cases_lt (length a.kernels) n) [ inl l ↦ absurd (omega (arith, (h.starts (length a.kernels) l).0)) | inr l ↦ l ] in
    let len : length starts ≡ n = length-take-le n a.kernels enough in
    let both = numbering_unique (Next g) (one_next g) starts a.kernels b.kernels (map targets_of a.edges) (map targets_of b.edges) (IsNumbering-canonical g a h starts len refl) (IsNumbering-canonical g b k starts len begins) in
    let kernels : a.kernels ≡ b.kernels = both.0 in
    let edges : a.edges ≡ b.edges = equal_by_elements a.edges b.edges (h.rows ∙ ap length kernels ∙ sym k.rows) (λ s l. row_one g a b h k kernels both.1 s l) in
    λ i. record { kernels = kernels i; edges = edges i }
