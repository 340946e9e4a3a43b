-- The loop invariant of the construction of the collection: each state whose closure was taken has its edges.
use Rattle.std.proofs.Common.{◌≡◌, ℕ, ◌+◌, ◌<◌, ◌≤◌, List, [], ◌∷◌, ◌++◌, Some, length, map, refl, sym, ap, ◌∙◌, ◌↔◌, arith, inl, inr}
use Rattle.std.specs.List.{slice_get, Contains, concat}
use Rattle.std.proofs.lemmas.Bool.{cases_lt}
use Rattle.std.proofs.lemmas.List.{map-append, length_push, append-nil, length-append}
use Rattle.std.proofs.lemmas.List.Elements.{All-contains, All-weaker, All-contains_itself}
use Rattle.std.proofs.lemmas.List.Folds.{concat-append}
use Rattle.std.proofs.lemmas.Option.{get_or_from_slice_get, slice_get_within}
use Rattle.mh_grammar.specs.declared.types.Symbol.{Symbol}
use Rattle.mh_grammar.specs.declared.types.Look.TheVariants.{End}
use Rattle.mh_grammar.specs.declared.edges.Edge.{Edge}
use Rattle.mh_grammar.specs.Plain.{PlainGrammar}
use Rattle.mh_grammar.specs.Edges.{IsRising, IsSymbolBefore}
use Rattle.mh_grammar.specs.ItemSets.{AreSameItems, Close}
use Rattle.mh_grammar.specs.Numbering.{InFirstSightOrder}
use Rattle.mh_grammar.specs.Placed.{Placed}
use Rattle.mh_grammar.proofs.NumberingInvariant.{contains_at, get_left, get_last, rows_pushed, AllPlaced-kept, AllPlaced-grows, AllPlaced-order, InFirstSightOrder-append}
use Rattle.mh_items_kernels.specs.KernelTypes.{Items, Kernel, KernelItem}
use Rattle.mh_items_kernels.specs.Kernels.{Holds, IsItemList}
use Rattle.mh_items_kernels.specs.Automaton.{start_kernel}
use Rattle.mh_items_kernels.specs.Collection.{targets_of, AreStarts}
use Rattle.mh_canon.specs.code.FoundStates.{IsCanonicalState, AreCanonicalStates, IsStateClosure, AreStateEdges}
use Rattle.mh_items_kernels.specs.code.KernelMoves.{IsAfterDot}
use Rattle.mh_canon.proofs.IsEdgeRow.{IsEdgeRow, IsEdgeRow-kept, IsEdgeRow-new}
use Rattle.mh_grammar.proofs.Lists.{contains_here}
use Rattle.mh_canon.proofs.ItemSets.{Holds-start}
use Rattle.mh_canon.proofs.AreCanonicalStates.{IsStateClosure-close, AreCanonicalStates-edges}

pub record PartialCollection (g : PlainGrammar) (kernels : List Kernel) (edges : List (List Edge)) : Type 0 where
  pub begins : (i : ℕ) → i < length g.starts → slice_get kernels i ≡ Some (start_kernel i)
  pub states : AreCanonicalStates g kernels
  pub short : length edges ≤ length kernels
  pub rows : (s : ℕ) (k : Kernel) (row : List Edge) → slice_get kernels s ≡ Some k → slice_get edges s ≡ Some row → IsEdgeRow g kernels k row
  pub order : InFirstSightOrder (length g.starts) (concat (map targets_of edges)) (length kernels)

pub IsItemList-start : (g : PlainGrammar) (i : ℕ) → i < length g.starts → IsItemList g (start_kernel i)
IsItemList-start g i l = record {
  items = (record { production = omega arith; dot = omega arith; looks = (tt, tt); rising = (tt, tt); some = omega arith }, tt);
  rising = (tt, tt);
}

IsCanonicalState-start : (g : PlainGrammar) (i : ℕ) → i < length g.starts → IsCanonicalState g (start_kernel i)
IsCanonicalState-start g i l = record {
  kernel = IsItemList-start g i l;
  has_item = record {
    production = i;
    dot = 0;
    look = End;
    holds = (record { production = i; dot = 0; looks = End ∷ [] }, contains_here (record { production = i; dot = 0; looks = End ∷ [] }) [], refl, refl, contains_here End []);
  };
  reach = record { start = i; path = []; known = l; same = Holds-start i };
}

one_start : (i j : ℕ) → start_kernel i ≡ start_kernel j → i ≡ j
one_start i j e =
    let items = ap (λ (k : Kernel). k.items) e in
    let first : record { production = i; dot = 0; looks = End ∷ [] } ≡ record { production = j; dot = 0; looks = End ∷ [] } = cc in
    ap (λ (k : KernelItem). k.production) first

pub AreStarts-none : AreStarts 0 []
AreStarts-none = record { len = refl; each = λ i l. absurd (omega arith) }

-- The next start kernel is new.
pub AreStarts-step : (n at : ℕ) (old new : List Kernel) → AreStarts n old → Placed old new (start_kernel n) at → AreStarts (n + 1) new
AreStarts-step n at old new s p = elim p.grown [
  | inl g ↦ absurd (
      let l : at < n = omega (arith, s.len, g.1) in
      let there = rw g.0 at p.at in
      let first = s.each at l in
      let same : start_kernel at ≡ start_kernel n = cc in
      let one = one_start at n same in
      omega (arith, one))
  | inr g ↦ record {
    len = rw g.0 (length_push old (start_kernel n) ∙ ap (λ k. k + 1) s.len);
    each = λ i l. rw g.0 (elim (cases_lt i n) [
      | inl m ↦ get_left old (start_kernel n ∷ []) i (start_kernel i) (s.each i m)
      | inr m ↦ (let one : i ≡ n = omega arith in rw one (get_last old (start_kernel n) n (sym s.len)))
    ]);
  }
]

pub PartialCollection-start : (g : PlainGrammar) (kernels : List Kernel) → AreStarts (length g.starts) kernels → PartialCollection g kernels []
PartialCollection-start g kernels s = record {
  begins = s.each;
  states = record {
    each = λ k d l. let m : k < length g.starts = omega (arith, s.len) in rw (get_or_from_slice_get kernels k (start_kernel k) d (s.each k m)) (IsCanonicalState-start g k m);
    distinct = record {
      same = λ i j x e f.
          let l : i < length g.starts = omega (arith, s.len, slice_get_within kernels i x e) in
          let m : j < length g.starts = omega (arith, s.len, slice_get_within kernels j x f) in
          let a = s.each i l in
          let b = s.each j m in
          let same : start_kernel i ≡ start_kernel j = cc in
          one_start i j same;
    };
  };
  short = omega arith;
  rows = λ t k row e f. cc;
  order = sym s.len;
}

-- The closure of a kernel that was found is the closure of a state.
pub PartialCollection-closure : (g : PlainGrammar) (kernels : List Kernel) (edges : List (List Edge)) (i : ℕ) (k : Kernel) (closed : Items) → PartialCollection g kernels edges → slice_get kernels i ≡ Some k → IsItemList g closed → AreSameItems (Holds closed) (Close g (Holds k)) → IsStateClosure g closed
PartialCollection-closure g kernels edges i k closed w at of_closed same =
    IsStateClosure-close g k closed (All-contains (IsCanonicalState g) kernels k w.states.each (contains_at kernels i k at)) of_closed same

pub PartialCollection-step : (g : PlainGrammar) (kernels new : List Kernel) (edges : List (List Edge)) (k : Kernel) (closed : Items) (symbols : List Symbol) (row : List Edge) → PartialCollection g kernels edges → slice_get kernels (length edges) ≡ Some k → IsItemList g closed → AreSameItems (Holds closed) (Close g (Holds k)) → IsRising IsSymbolBefore symbols → ((X : Symbol) → Contains symbols X ↔ IsAfterDot g closed X) → AreStateEdges g closed symbols kernels new row → PartialCollection g new (edges ++ row ∷ [])
PartialCollection-step g kernels new edges k closed symbols row w at of_closed same rising exact e =
    let source = PartialCollection-closure g kernels edges (length edges) k closed w at of_closed same in
    let behind = All-weaker (Contains symbols) (IsAfterDot g closed) (λ X c. (exact X).0 c) symbols (All-contains_itself symbols) in
    let grows = AllPlaced-grows kernels new e.moves (targets_of row) e.placed in
    let kept = AllPlaced-kept kernels new e.moves (targets_of row) e.placed in
    let within = slice_get_within kernels (length edges) k at in
    record {
      begins = λ i l. kept i (start_kernel i) (w.begins i l);
      states = AreCanonicalStates-edges g closed symbols kernels new row source behind w.states e;
      short = omega (arith, length_push edges row, within, ap length grows.1, length-append kernels grows.0);
      rows = rows_pushed (IsEdgeRow g kernels) (IsEdgeRow g new) kernels new edges k row w.short kept at (λ m r. IsEdgeRow-kept g kernels new m r kept) (IsEdgeRow-new g k closed symbols kernels new row same rising exact e) w.rows;
      order = rw (map-append targets_of edges (row ∷ []), concat-append, append-nil (targets_of row)) (InFirstSightOrder-append (length g.starts) (concat (map targets_of edges)) (targets_of row) (length kernels) (length new) w.order (AllPlaced-order kernels new e.moves (targets_of row) e.placed));
    }
