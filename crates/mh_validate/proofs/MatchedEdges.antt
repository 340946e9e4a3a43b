-- Proves that the edges of a state are right exactly if they match the moves of its closure.
use Rattle.std.proofs.Common.{◌≡◌, ◌<◌, ℕ, suc, List, [], ◌∷◌, map, length, Option, None, Some, get_or, refl, sym, ap, ◌∙◌, subst, arith, inl, inr}
use Rattle.std.specs.Prelude.{slice_index_or}
use Rattle.std.specs.List.{AllZip, Contains}
use Rattle.std.proofs.lemmas.List.Elements.{All-contains}
use Rattle.std.proofs.lemmas.List.{get_or_default}
use Rattle.mh_grammar.specs.declared.types.Symbol.{Symbol}
use Rattle.mh_grammar.specs.declared.types.Grammar.{Grammar}
use Rattle.mh_grammar.specs.declared.edges.Edge.{Edge}
use Rattle.mh_grammar.specs.Plain.{PlainGrammar, plain_of, rhs_of}
use Rattle.mh_grammar.specs.Edges.{IsRising, IsSymbolBefore, IsEdgeBefore}
use Rattle.mh_grammar.specs.ItemSets as items
use Rattle.mh_grammar.specs.ItemSets.{AreSameItems, Close, Moved}
use Rattle.mh_grammar.proofs.Lists.{contains_here, contains_there, contains_cases, contains_none, at_contains, contains_map, recursion-from, recursion_contains, first_same}
use Rattle.mh_items_kernels.specs.KernelTypes.{Kernel}
use Rattle.mh_items_kernels.specs.Kernels.{Holds, IsItemList}
use Rattle.mh_items_kernels.specs.Automaton.{no_kernel, kernel_at, move_of, HasMove, IsTarget}
use Rattle.mh_items_kernels.specs.code.KernelMoves.{IsAfterDot, IsMove}
use Rattle.mh_items_kernels.specs.Collection.{edge_symbols}
use Rattle.mh_items.specs.code.AllMoves.{Move, AreMovesOf, symbols_of}
use Rattle.mh_canon.proofs.ItemSets.{AreSameItems-trans, Moved-same, Holds-core_item}
use Rattle.mh_tabfile_form.specs.declared.types.RawEdge.{RawEdge}
use Rattle.mh_tabfile_form.specs.declared.types.RawTable.{RawTable}
use Rattle.mh_tabfile_form.specs.TableContent.{raw_edge}
use Rattle.mh_validate_valid.specs.Valid.{AreKernels, HasEdges, without_edges, raw_state}
use Rattle.mh_validate_valid.proofs.KernelUnique.{tail_equal, nil_not_cons}
use Rattle.mh_validate_valid.proofs.EdgeLists.{on_symbol, has_symbol, symbols_unique, symbols_rise}
use Rattle.mh_grammar.specs.Names.{symbol_name}
use Rattle.mh_grammar.proofs.EdgeOrder.{edge_found, found_in}
use Rattle.mh_validate.specs.code.MatchedEdges.{MatchesMove, IsRowOf, edges_on}
use Rattle.mh_validate_valid.specs.code.SearchResult.{FindsOne}
use Rattle.mh_validate.proofs.KernelWithin.{target_of, holds_move}
use Rattle.mh_items_kernels.proofs.SymbolAtDot.{drop_from-slice_get}
use Rattle.mh_canon.proofs.IsEdgeRow.{after_dot_of_moved}

-- The edges built from moves have the symbols of the moves.
on_symbols : (g : Grammar) (ks : List Kernel) (ms : List Move) (rs : List RawEdge) → AllZip (MatchesMove g ks) ms rs → edge_symbols (edges_on ms rs) ≡ symbols_of ms
on_symbols g ks [] [] z = refl
on_symbols g ks [] (r ∷ rs) z = absurd z
on_symbols g ks (m ∷ ms) [] z = absurd z
on_symbols g ks (m ∷ ms) (r ∷ rs) z = ap (λ xs. m.symbol ∷ xs) (on_symbols g ks ms rs z.1)

-- In the form of a table file, the edges built from moves are the edges of the file.
on_spelled : (g : Grammar) (ks : List Kernel) (ms : List Move) (rs : List RawEdge) → AllZip (MatchesMove g ks) ms rs → rs ≡ map (raw_edge g) (edges_on ms rs)
on_spelled g ks [] [] z = refl
on_spelled g ks [] (r ∷ rs) z = absurd z
on_spelled g ks (m ∷ ms) [] z = absurd z
on_spelled g ks (m ∷ ms) (r ∷ rs) z =
    let first : record { symbol = r.symbol; target = r.target } ≡ raw_edge g (record { symbol = m.symbol; target = r.target }) = ap (λ name. record { symbol = name; target = r.target }) z.0.named in
    ap (λ xs. r ∷ xs) (on_spelled g ks ms rs z.1) ∙ ap (λ (x : RawEdge). x ∷ map (raw_edge g) (edges_on ms rs)) first

-- The edges rise if their symbols rise.
edges_rise : (es : List Edge) → IsRising IsSymbolBefore (edge_symbols es) → IsRising IsEdgeBefore es
edges_rise [] h = tt
edges_rise (e ∷ es) h = (recursion-from (IsEdgeBefore e) es (λ f c. recursion_contains (IsSymbolBefore e.symbol) (edge_symbols es) h.0 f.symbol (contains_map (λ (k : Edge). k.symbol) es f c)), edges_rise es h.1)

-- Each built edge belongs to a move that matches an edge of the file.
on_move : (g : Grammar) (ks : List Kernel) (ms : List Move) (rs : List RawEdge) → AllZip (MatchesMove g ks) ms rs → (e : Edge) → Contains (edges_on ms rs) e → (m : Move) × (r : RawEdge) × Contains ms m × MatchesMove g ks m r × (m.symbol ≡ e.symbol) × (r.target ≡ e.target)
on_move g ks [] rs z e c = absurd (contains_none e c)
on_move g ks (m ∷ ms) [] z e c = absurd z
on_move g ks (m ∷ ms) (r ∷ rs) z e c = elim (contains_cases (record { symbol = m.symbol; target = r.target }) (edges_on ms rs) e c) [
  | inl same ↦ (m, r, contains_here m ms, z.0, ap (λ (k : Edge). k.symbol) same, ap (λ (k : Edge). k.target) same)
  | inr rest ↦ (let (n, q, at, leads, on, to) = on_move g ks ms rs z.1 e rest in (n, q, contains_there m ms n at, leads, on, to))
]

module _ (g : Grammar) (raw : RawTable) (ks : List Kernel) (s : ℕ) (moves : List Move) (of : AreMovesOf (plain_of g) (slice_index_or ks s no_kernel) moves) where
  abbrev P : PlainGrammar
  P = plain_of g

  -- A move has the kernel of the items that its symbol moves.
  carried : (m : Move) → Contains moves m → IsItemList P m.kernel × AreSameItems (Holds m.kernel) (move_of P (without_edges ks) s m.symbol)
  unfolding kernel_at
  carried m c =
      let is : IsMove P of.closed m.symbol m.kernel = All-contains (λ (x : Move). IsMove P of.closed x.symbol x.kernel) moves m of.are.each c in
      (is.kernel, AreSameItems-trans (Holds m.kernel) (Moved P (Holds of.closed) m.symbol) (Moved P (Close P (Holds (slice_index_or ks s no_kernel))) m.symbol) is.same (Moved-same P (Holds of.closed) (Close P (Holds (slice_index_or ks s no_kernel))) m.symbol of.same))

  -- A symbol moves items exactly if there is a move on this symbol.
  symbol_moves : (X : Symbol) → Contains (symbols_of moves) X → HasMove P (without_edges ks) s X
  unfolding kernel_at
  symbol_moves X c =
      let b : IsAfterDot P of.closed X = (of.are.exact X).0 c in
      let (a, held) = Holds-core_item P of.closed of.valid b.production b.dot b.place in
      let moved : Moved P (Holds of.closed) X b.production (suc b.dot) a = items.Moved.moved held (drop_from-slice_get (rhs_of P b.production) b.dot X b.at_dot) in
      record { production = b.production; dot = suc b.dot; look = a; moves = (Moved-same P (Holds of.closed) (Close P (Holds (slice_index_or ks s no_kernel))) X of.same b.production (suc b.dot) a).0 moved }

  moves_symbol : (X : Symbol) → HasMove P (without_edges ks) s X → Contains (symbols_of moves) X
  unfolding kernel_at
  moves_symbol X m =
      let here : Moved P (Holds of.closed) X m.production m.dot m.look = (Moved-same P (Holds of.closed) (Close P (Holds (slice_index_or ks s no_kernel))) X of.same m.production m.dot m.look).1 m.moves in
      (of.are.exact X).1 (after_dot_of_moved P of.closed X m.production m.dot m.look here)

  -- Edges built from matching moves are right.

  pub edges_right : (rs : List RawEdge) → rs ≡ (raw_state raw s).edges → AllZip (MatchesMove g ks) moves rs → HasEdges g raw ks s (edges_on moves rs)
  unfolding kernel_at
  edges_right rs e z =
      let on = on_symbols g ks moves rs z in
      let order : IsRising IsEdgeBefore (edges_on moves rs) = edges_rise (edges_on moves rs) (subst (IsRising IsSymbolBefore) (sym on) of.are.rising) in
      record {
        spelled = sym e ∙ on_spelled g ks moves rs z;
        are_edges = record {
          order = order;
          edge = λ X m. on_symbol (edges_on moves rs) order X (subst (λ xs. Contains xs X) (sym on) (moves_symbol X m));
          target = λ X u f.
              let (m, r, at, leads, is, to) = on_move g ks moves rs z (record { symbol = X; target = u }) (found_in (edges_on moves rs) X u f) in
              let (kernel, same) = carried m at in
              let t : IsTarget P (without_edges ks) s m.symbol r.target = target_of P (without_edges ks) s m.symbol r.target m.kernel kernel same leads.known leads.within in
              (symbol_moves X (subst (λ xs. Contains xs X) on (has_symbol (edges_on moves rs) X u f)), subst (λ v. IsTarget P (without_edges ks) s X v) to (subst (λ x. IsTarget P (without_edges ks) s x r.target) is t));
        };
      }

  -- If edges are right, they are those of the moves, and each move matches its edge.

  leads_of : (m : Move) → Contains moves m → (e : Edge) → m.symbol ≡ e.symbol → ((u : ℕ) → u < length ks → IsItemList P (slice_index_or ks u no_kernel)) → IsTarget P (without_edges ks) s e.symbol e.target → MatchesMove g ks m (raw_edge g e)
  unfolding kernel_at
  leads_of m c e is kernels t =
      let (kernel, same) = carried m c in
      record {
        named = ap (symbol_name g) (sym is);
        known = t.known;
        within = holds_move P (without_edges ks) s m.symbol e.target m.kernel kernel (kernels e.target t.known) same (subst (λ x. IsTarget P (without_edges ks) s x e.target) (sym is) t);
      }

  zip_leads : (ms : List Move) (es : List Edge) → symbols_of ms ≡ edge_symbols es → ((m : Move) → Contains ms m → Contains moves m) → ((e : Edge) → Contains es e → IsTarget P (without_edges ks) s e.symbol e.target)
      → ((u : ℕ) → u < length ks → IsItemList P (slice_index_or ks u no_kernel)) → AllZip (MatchesMove g ks) ms (map (raw_edge g) es)
  zip_leads [] [] on ins ts kernels = tt
  zip_leads [] (e ∷ es) on ins ts kernels = absurd (nil_not_cons e.symbol (edge_symbols es) on)
  zip_leads (m ∷ ms) [] on ins ts kernels = absurd (nil_not_cons m.symbol (symbols_of ms) (sym on))
  zip_leads (m ∷ ms) (e ∷ es) on ins ts kernels = (
    leads_of m (ins m (contains_here m ms)) e (first_same m.symbol e.symbol (symbols_of ms) (edge_symbols es) on) kernels (ts e (contains_here e es)),
    zip_leads ms es (tail_equal m.symbol e.symbol (symbols_of ms) (edge_symbols es) on) (λ x c. ins x (contains_there m ms x c)) (λ x c. ts x (contains_there e es x c)) kernels,
  )

  pub edges_match_moves : AreKernels g raw ks → (rs : List RawEdge) → rs ≡ (raw_state raw s).edges → (es : List Edge) → HasEdges g raw ks s es → AllZip (MatchesMove g ks) moves rs
  edges_match_moves are rs e es h =
      let on : symbols_of moves ≡ edge_symbols es = symbols_unique (symbols_of moves) (edge_symbols es) of.are.rising (symbols_rise es h.are_edges.order)
      (λ X c. let (u, f) = h.are_edges.edge X (symbol_moves X c) in has_symbol es X u f)
      (λ X c. let (u, f) = on_symbol es h.are_edges.order X c in moves_symbol X (h.are_edges.target X u f).0) in
      subst (λ rs. AllZip (MatchesMove g ks) moves rs) (sym (e ∙ h.spelled))
      (zip_leads moves es on (λ m c. c)
      (λ f c. let (k, at) = at_contains es f c in (h.are_edges.target f.symbol f.target (edge_found es k f h.are_edges.order at)).1)
      (λ u lt. (are.each u (let n = are.count in omega (arith, n, lt))).kernel.kernel))

  pub found_row : AreKernels g raw ks → (rs : List RawEdge) → rs ≡ (raw_state raw s).edges → (o : Option (List Edge)) → IsRowOf g ks moves rs o → FindsOne (HasEdges g raw ks s) o
  found_row are rs e None none = λ es h. none (edges_match_moves are rs e es h)
  found_row are rs e (Some row) h = let (z, same) = h in subst (HasEdges g raw ks s) (sym same) (edges_right rs e z)

-- The moves of the kernel of a state.
pub moves_at : (g : Grammar) (ks : List Kernel) (s : ℕ) (k : Kernel) (moves : List Move) → s < length ks → k ≡ get_or ks s k → AreMovesOf (plain_of g) k moves → AreMovesOf (plain_of g) (slice_index_or ks s no_kernel) moves
moves_at g ks s k moves lt e of = subst (λ (x : Kernel). AreMovesOf (plain_of g) x moves) (e ∙ get_or_default ks s k no_kernel lt) of

pub kernel_right : (g : Grammar) (raw : RawTable) (ks : List Kernel) → AreKernels g raw ks → (s : ℕ) (k : Kernel) → s < length ks → k ≡ get_or ks s k → IsItemList (plain_of g) k
kernel_right g raw ks are s k lt e = subst (IsItemList (plain_of g)) (sym (e ∙ get_or_default ks s k no_kernel lt)) (are.each s (let n = are.count in omega (arith, n, lt))).kernel.kernel
