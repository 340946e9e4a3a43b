-- Proves that a collection with all its edges is the canonical one.
use Rattle.std.proofs.Common.{◌≡◌, ℕ, ◌<◌, List, [], ◌∷◌, Some, None, length, sym, ap, ◌∙◌, arith, inl, inr}
use Rattle.std.proofs.lemmas.Bool.{cases_lt}
use Rattle.std.specs.List.{slice_get}
use Rattle.std.proofs.lemmas.List.Elements.{All-get_or}
use Rattle.std.proofs.lemmas.Option.{slice_get-get_or, slice_get_within}
use Rattle.std.proofs.lemmas.List.{get_or_past}
use Rattle.mh_grammar.specs.declared.types.Symbol.{Symbol}
use Rattle.mh_grammar.specs.Plain.{PlainGrammar}
use Rattle.mh_grammar.specs.Edges.{find_edge}
use Rattle.mh_grammar.specs.ItemSets.{AreSameItems, Close, StartItems, PathItems}
use Rattle.mh_items_kernels.specs.KernelTypes.{Kernel, Automaton}
use Rattle.mh_items_kernels.specs.Kernels.{HasCoreItem}
use Rattle.mh_items_kernels.specs.Automaton.{no_kernel, kernel_at, kernel_of, edges_at, leads_to, move_of, start_kernel, HasMove}
use Rattle.mh_items_kernels.specs.Collection.{HasItem}
use Rattle.mh_canon.specs.Canonical.{IsCanonical}
use Rattle.mh_canon.specs.code.FoundStates.{IsCanonicalState}
use Rattle.mh_canon.proofs.PartialCollection.{PartialCollection}
use Rattle.mh_canon.proofs.IsEdgeRow.{IsEdgeRow}
use Rattle.mh_items_kernels.proofs.UniqueItemList.{kernel_same}
use Rattle.mh_grammar.proofs.Lists.{contains_none}
use Rattle.mh_canon.proofs.ItemSets.{AreSameItems-sym, AreSameItems-trans, HasItem-same, Moved-same, Close-same, HasItem-path, Holds-start}

pub slice_get-kernel_at : (a : Automaton) (s : ℕ) → s < length a.kernels → slice_get a.kernels s ≡ Some (kernel_at a s)
unfolding kernel_at
slice_get-kernel_at a s l = slice_get-get_or a.kernels s no_kernel l

pub kernel_at-slice_get : (a : Automaton) (s : ℕ) (k : Kernel) → slice_get a.kernels s ≡ Some k → kernel_at a s ≡ k
kernel_at-slice_get a s k e = let l = slice_get_within a.kernels s k e in let f = slice_get-kernel_at a s l in cc

pub slice_get-edges_at : (a : Automaton) (s : ℕ) → s < length a.edges → slice_get a.edges s ≡ Some (edges_at a s)
unfolding edges_at
slice_get-edges_at a s l = slice_get-get_or a.edges s [] l

-- Only states of the automaton have items.
pub items_within : (a : Automaton) (s p d : ℕ) → HasCoreItem (kernel_at a s) p d → s < length a.kernels
unfolding kernel_at
items_within a s p d h = elim (cases_lt s (length a.kernels)) [
  | inl l ↦ l
  | inr l ↦ absurd (let none = get_or_past a.kernels s no_kernel l in contains_none h.0 (rw none at h.1))
]

-- Only states of the automaton have edges.
pub edges_within : (a : Automaton) (s u : ℕ) (X : Symbol) → leads_to a s X ≡ Some u → s < length a.edges
unfolding edges_at
edges_within a s u X e = elim (cases_lt s (length a.edges)) [
  | inl l ↦ l
  | inr l ↦ absurd (let none = get_or_past a.edges s [] l in let f = ap (λ es. find_edge es X) none in let g : None ≡ Some u = sym f ∙ e in cc)
]

-- If the start kernels are in the list and each move has an edge to its item set, each path leads to a state.
pub reach_complete : (g : PlainGrammar) (a : Automaton) → ((i : ℕ) → i < length g.starts → (i < length a.kernels) × AreSameItems (kernel_of a i) (StartItems i)) → ((s : ℕ) (X : Symbol) → s < length a.kernels → HasMove g a s X → (u : ℕ) × (leads_to a s X ≡ Some u)) → ((s : ℕ) (X : Symbol) (u : ℕ) → leads_to a s X ≡ Some u → HasMove g a s X × (u < length a.kernels) × AreSameItems (kernel_of a u) (move_of g a s X)) → (i : ℕ) (path : List Symbol) → i < length g.starts → HasItem (PathItems g i path) → (s : ℕ) × (s < length a.kernels) × AreSameItems (kernel_of a s) (PathItems g i path)
reach_complete g a starts edge target i [] l h = let s = starts i l in (i, s.0, s.1)
reach_complete g a starts edge target i (X ∷ path) l h =
    let before = reach_complete g a starts edge target i path l (HasItem-path g i X path h) in
    let s = before.0 in
    let sets : AreSameItems (move_of g a s X) (PathItems g i (X ∷ path)) = Moved-same g (Close g (kernel_of a s)) (Close g (PathItems g i path)) X (Close-same g (kernel_of a s) (PathItems g i path) before.2) in
    let item = HasItem-same (PathItems g i (X ∷ path)) (move_of g a s X) (AreSameItems-sym (move_of g a s X) (PathItems g i (X ∷ path)) sets) h in
    let u = edge s X before.1 (record { production = item.production; dot = item.dot; look = item.look; moves = item.holds }) in
    let to = target s X u.0 u.1 in
    (u.0, to.1, AreSameItems-trans (kernel_of a u.0) (move_of g a s X) (PathItems g i (X ∷ path)) to.2 sets)

module _ (g : PlainGrammar) (a : Automaton) (b : PartialCollection g a.kernels a.edges) (done : length a.edges ≡ length a.kernels) where
  state : (s : ℕ) → s < length a.kernels → IsCanonicalState g (kernel_at a s)
  unfolding kernel_at
  state s l = All-get_or (IsCanonicalState g) a.kernels s no_kernel l b.states.each

  row : (s : ℕ) → s < length a.kernels → IsEdgeRow g a.kernels (kernel_at a s) (edges_at a s)
  row s l = b.rows s (kernel_at a s) (edges_at a s) (slice_get-kernel_at a s l) (slice_get-edges_at a s (omega (arith, done)))

  starts : (i : ℕ) → i < length g.starts → (i < length a.kernels) × AreSameItems (kernel_of a i) (StartItems i)
  starts i l =
      let at = b.begins i l in
      (slice_get_within a.kernels i (start_kernel i) at, rw (kernel_at-slice_get a i (start_kernel i) at) (Holds-start i))

  edge : (s : ℕ) (X : Symbol) → s < length a.kernels → HasMove g a s X → (u : ℕ) × (leads_to a s X ≡ Some u)
  edge s X l m = (row s l).all X (record { production = m.production; dot = m.dot; look = m.look; holds = m.moves })

  target : (s : ℕ) (X : Symbol) (u : ℕ) → leads_to a s X ≡ Some u → HasMove g a s X × (u < length a.kernels) × AreSameItems (kernel_of a u) (move_of g a s X)
  target s X u e =
      let l : s < length a.kernels = omega (arith, edges_within a s u X e, done) in
      let to = (row s l).targets_are X u e in
      let m = slice_get_within a.kernels u to.0 to.1 in
      let one = kernel_at-slice_get a u to.0 to.1 in
      let same : AreSameItems (kernel_of a u) (move_of g a s X) = rw one to.2 in
      let item = HasItem-same (kernel_of a u) (move_of g a s X) same (state u m).has_item in
      (record { production = item.production; dot = item.dot; look = item.look; moves = item.holds }, m, same)

  pub IsCanonical-done : IsCanonical g a
  IsCanonical-done = record {
    each = λ s l. let k = state s l in (k.kernel, k.has_item);
    rows = done;
    starts = starts;
    sound = λ s l. (state s l).reach;
    complete = reach_complete g a starts edge target;
    distinct = λ s u l m same.
        let one : kernel_at a u ≡ kernel_at a s = sym (kernel_same g (kernel_at a s) (kernel_at a u) (state s l).kernel (state u m).kernel same) in
        b.states.distinct.same s u (kernel_at a s) (slice_get-kernel_at a s l) (slice_get-kernel_at a u m ∙ ap Some one);
    order = λ s l. (row s l).rising;
    edge = edge;
    target = target;
    breadth_first = b.order;
  }
