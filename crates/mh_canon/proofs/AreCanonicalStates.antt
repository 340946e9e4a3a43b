-- Proves that the kernels that are found are states of the collection, and that too many kernels are too many item
-- sets.
use Rattle.std.proofs.Common.{◌≡◌, ℕ, zero, suc, ◌<◌, ◌≤◌, List, [], ◌∷◌, ◌++◌, Some, length, refl, sym, ap, ◌∙◌, arith, inl, inr}
use Rattle.std.specs.List.{slice_get, All, AllByRecursion, AllZip}
use Rattle.std.proofs.lemmas.List.{map-append, length_push}
use Rattle.std.proofs.lemmas.List.Elements.{All-contains, All-from_recursion, recursion_from_All}
use Rattle.std.proofs.lemmas.Option.{slice_get_within}
use Rattle.mh_grammar.specs.declared.types.Symbol.{Symbol}
use Rattle.mh_grammar.specs.declared.edges.Edge.{Edge}
use Rattle.mh_grammar.specs.Plain.{PlainGrammar, rhs_of}
use Rattle.mh_grammar.specs.ItemSets as items
use Rattle.mh_grammar.specs.ItemSets.{AreSameItems, Close, Moved, PathItems}
use Rattle.mh_grammar.specs.Placed.{Placed}
use Rattle.mh_grammar.proofs.NumberingInvariant.{AllPlaced-push, AllPlaced-each, AllPlaced-distinct}
use Rattle.mh_items_kernels.specs.KernelTypes.{Items, Kernel}
use Rattle.mh_items_kernels.specs.Kernels.{Holds, IsItemList}
use Rattle.mh_items_kernels.specs.Collection.{targets_of}
use Rattle.mh_canon.specs.Canonical.{StartPath, items_of_path, ReachesItems, CanonicalExceeds}
use Rattle.mh_canon.specs.code.FoundStates.{IsCanonicalState, AreCanonicalStates, IsStateClosure, AreStateEdges}
use Rattle.mh_items_kernels.specs.code.KernelMoves.{IsAfterDot, IsMove}
use Rattle.mh_items_kernels.proofs.UniqueItemList.{kernel_same}
use Rattle.mh_canon.proofs.ItemSets.{AreSameItems-sym, AreSameItems-trans, Moved-same, Close-same, Holds-core_item}
use Rattle.mh_grammar.proofs.Lists.{zip_push}
use Rattle.mh_items_kernels.proofs.SymbolAtDot.{drop_from-slice_get}

-- A list of the items of a state's closure is the closure of a state.
pub IsStateClosure-close : (g : PlainGrammar) (k : Kernel) (closed : Items) → IsCanonicalState g k → IsItemList g closed → AreSameItems (Holds closed) (Close g (Holds k)) → IsStateClosure g closed
IsStateClosure-close g k closed s of_closed same = record {
  start = s.reach.start;
  path = s.reach.path;
  known = s.reach.known;
  is_list = of_closed;
  same = AreSameItems-trans (Holds closed) (Close g (Holds k)) (Close g (PathItems g s.reach.start s.reach.path)) same (Close-same g (Holds k) (PathItems g s.reach.start s.reach.path) s.reach.same);
}

-- A move of a state's closure leads to a state.
pub IsCanonicalState-move : (g : PlainGrammar) (closed : Items) (k : Kernel) (X : Symbol) → IsStateClosure g closed → IsAfterDot g closed X → IsMove g closed X k → IsCanonicalState g k
IsCanonicalState-move g closed k X source behind move =
    let look = Holds-core_item g closed source.is_list behind.production behind.dot behind.place in
    let next : Moved g (Holds closed) X behind.production (suc behind.dot) look.0 = items.Moved.moved look.1 (drop_from-slice_get (rhs_of g behind.production) behind.dot X behind.at_dot) in
    record {
      kernel = move.kernel;
      has_item = record { production = behind.production; dot = suc behind.dot; look = look.0; holds = (move.same behind.production (suc behind.dot) look.0).1 next };
      reach = record {
        start = source.start;
        path = X ∷ source.path;
        known = source.known;
        same = AreSameItems-trans (Holds k) (Moved g (Holds closed) X) (PathItems g source.start (X ∷ source.path)) move.same (Moved-same g (Holds closed) (Close g (PathItems g source.start source.path)) X source.same);
      };
    }

moves_states : (g : PlainGrammar) (closed : Items) → IsStateClosure g closed → (symbols : List Symbol) (moves : List Kernel) → AllByRecursion (IsAfterDot g closed) symbols → AllZip (IsMove g closed) symbols moves → AllByRecursion (IsCanonicalState g) moves
moves_states g closed source [] [] behind each = tt
moves_states g closed source [] (k ∷ moves) behind each = absurd each
moves_states g closed source (X ∷ symbols) [] behind each = absurd each
moves_states g closed source (X ∷ symbols) (k ∷ moves) behind each = (IsCanonicalState-move g closed k X source behind.0 each.0, moves_states g closed source symbols moves behind.1 each.1)

-- The kernels of placed moves are states.
pub AreCanonicalStates-edges : (g : PlainGrammar) (closed : Items) (symbols : List Symbol) (old new : List Kernel) (row : List Edge) → IsStateClosure g closed → All (IsAfterDot g closed) symbols → AreCanonicalStates g old → AreStateEdges g closed symbols old new row → AreCanonicalStates g new
AreCanonicalStates-edges g closed symbols old new row source behind s e = record {
  each = AllPlaced-each (IsCanonicalState g) old new e.moves (targets_of row) e.placed s.each (λ k c. All-contains (IsCanonicalState g) e.moves k (All-from_recursion (IsCanonicalState g) e.moves (moves_states g closed source symbols e.moves (recursion_from_All (IsAfterDot g closed) symbols behind) e.each)) c);
  distinct = AllPlaced-distinct old new e.moves (targets_of row) e.placed s.distinct;
}

pub AreStateEdges-none : (g : PlainGrammar) (closed : Items) (kernels : List Kernel) → AreStateEdges g closed [] kernels kernels []
AreStateEdges-none g closed kernels = record { moves = []; each = tt; symbols_are = refl; placed = refl }

pub AreStateEdges-push : (g : PlainGrammar) (closed : Items) (symbols : List Symbol) (old mid new : List Kernel) (row : List Edge) (X : Symbol) (k : Kernel) (n : ℕ) → AreStateEdges g closed symbols old mid row → IsMove g closed X k → Placed mid new k n → AreStateEdges g closed (symbols ++ X ∷ []) old new (row ++ record { symbol = X; target = n } ∷ [])
AreStateEdges-push g closed symbols old mid new row X k n e m p = record {
  moves = e.moves ++ k ∷ [];
  each = zip_push (IsMove g closed) symbols e.moves X k e.each m;
  symbols_are = map-append (λ (f : Edge). f.symbol) row (record { symbol = X; target = n } ∷ []) ∙ ap (λ xs. xs ++ X ∷ []) e.symbols_are;
  placed = rw (map-append (λ (f : Edge). f.target) row (record { symbol = X; target = n } ∷ [])) (AllPlaced-push old mid new e.moves (targets_of row) k n e.placed p);
}

-- For each state this list has a path that leads to the state.
paths_to : (g : PlainGrammar) (kernels : List Kernel) → AllByRecursion (IsCanonicalState g) kernels → List StartPath
paths_to g [] s = []
paths_to g (k ∷ kernels) s = record { start = s.0.reach.start; path = s.0.reach.path } ∷ paths_to g kernels s.1

paths_to-length : (g : PlainGrammar) (kernels : List Kernel) (s : AllByRecursion (IsCanonicalState g) kernels) → length (paths_to g kernels s) ≡ length kernels
unfolding paths_to
paths_to-length g [] s = refl
paths_to-length g (k ∷ kernels) s = ap suc (paths_to-length g kernels s.1)

record Leads (g : PlainGrammar) (k : Kernel) (w : StartPath) : Type 0 where
  state : IsCanonicalState g k
  known : w.start < length g.starts
  same : AreSameItems (Holds k) (items_of_path g w)

paths_to-leads : (g : PlainGrammar) (kernels : List Kernel) (s : AllByRecursion (IsCanonicalState g) kernels) (i : ℕ) (w : StartPath) → slice_get (paths_to g kernels s) i ≡ Some w → (k : Kernel) × (slice_get kernels i ≡ Some k) × Leads g k w
unfolding paths_to
paths_to-leads g [] s i w e = cc
paths_to-leads g (k ∷ kernels) s zero w e =
    let first : StartPath = record { start = s.0.reach.start; path = s.0.reach.path } in
    let here : Leads g k first = record { state = s.0; known = s.0.reach.known; same = s.0.reach.same } in
    let one : first ≡ w = cc in
    (k, refl, rw one at here)
paths_to-leads g (k ∷ kernels) s (suc i) w e = paths_to-leads g kernels s.1 i w e

paths_to-reaches : (g : PlainGrammar) (kernels : List Kernel) (s : AllByRecursion (IsCanonicalState g) kernels) → AllByRecursion (ReachesItems g) (paths_to g kernels s)
unfolding paths_to
paths_to-reaches g [] s = tt
paths_to-reaches g (k ∷ kernels) s = (
  record {
    known = s.0.reach.known;
    has_item = record { production = s.0.has_item.production; dot = s.0.has_item.dot; look = s.0.has_item.look; holds = (s.0.reach.same s.0.has_item.production s.0.has_item.dot s.0.has_item.look).0 s.0.has_item.holds };
  },
  paths_to-reaches g kernels s.1,
)

-- More states than the limit are more item sets than the limit.
pub CanonicalExceeds-states : (g : PlainGrammar) (kernels : List Kernel) (limit : ℕ) → AreCanonicalStates g kernels → limit < length kernels → CanonicalExceeds g limit
CanonicalExceeds-states g kernels limit s o =
    let all = recursion_from_All (IsCanonicalState g) kernels s.each in
    record {
      paths = paths_to g kernels all;
      each = All-from_recursion (ReachesItems g) (paths_to g kernels all) (paths_to-reaches g kernels all);
      distinct = λ i j v w e f same.
          let a = paths_to-leads g kernels all i v e in
          let b = paths_to-leads g kernels all j w f in
          let sets : AreSameItems (Holds a.0) (Holds b.0) = AreSameItems-trans (Holds a.0) (items_of_path g v) (Holds b.0) a.2.same (AreSameItems-trans (items_of_path g v) (items_of_path g w) (Holds b.0) same (AreSameItems-sym (Holds b.0) (items_of_path g w) b.2.same)) in
          let one : b.0 ≡ a.0 = sym (kernel_same g a.0 b.0 a.2.state.kernel b.2.state.kernel sets) in
          s.distinct.same i j a.0 a.1 (b.1 ∙ ap Some one);
      exceeds = omega (arith, paths_to-length g kernels all);
    }

-- If a kernel is placed at or after the limit, more item sets are reached than the limit.
pub CanonicalExceeds-placed : (g : PlainGrammar) (closed : Items) (symbols : List Symbol) (old mid new : List Kernel) (row : List Edge) (X : Symbol) (k : Kernel) (n limit : ℕ) → IsStateClosure g closed → All (IsAfterDot g closed) (symbols ++ X ∷ []) → AreCanonicalStates g old → AreStateEdges g closed symbols old mid row → IsMove g closed X k → Placed mid new k n → limit ≤ n → CanonicalExceeds g limit
CanonicalExceeds-placed g closed symbols old mid new row X k n limit source behind s e m p o =
    CanonicalExceeds-states g new limit (AreCanonicalStates-edges g closed (symbols ++ X ∷ []) old new (row ++ record { symbol = X; target = n } ∷ []) source behind s (AreStateEdges-push g closed symbols old mid new row X k n e m p)) (omega (arith, slice_get_within new n k p.at))

pub Placed-few : (old new : List Kernel) (k : Kernel) (n limit : ℕ) → Placed old new k n → length old ≤ limit → n < limit → length new ≤ limit
Placed-few old new k n limit p l m = elim p.grown [
  | inl e ↦ omega (arith, ap length e.0)
  | inr e ↦ omega (arith, ap length e.0, length_push old k, e.1)
]
