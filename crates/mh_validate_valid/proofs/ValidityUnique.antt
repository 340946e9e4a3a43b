-- Proves that a valid file names one automaton, and that the first failing test of any other file is unique.
use Rattle.std.proofs.Common.{inl, inr, ◌⊎◌, ◌≡◌, ◌<◌, ◌≤◌, ℕ, zero, suc, List, [], length, Option, Some, None, refl, sym, ap, ◌∙◌, subst, arith}
use Rattle.std.specs.Prelude.{slice_index_or}
use Rattle.std.proofs.lemmas.List.{same_lists, get_or_default}
use Rattle.mh_grammar.specs.declared.types.Grammar.{Grammar}
use Rattle.mh_grammar.specs.declared.edges.Edge.{Edge}
use Rattle.mh_items_kernels.specs.KernelTypes.{Kernel, Automaton}
use Rattle.mh_tables_core.specs.declared.parts.StateParts.{StateParts}
use Rattle.mh_tabfile_form.specs.declared.types.RawTable.{RawTable}
use Rattle.mh_tabfile_form.specs.TableContent.{raw_cells}
use Rattle.mh_resolve_cells.proofs.OneResolution.{resolved_once}
use Rattle.mh_validate_valid.specs.declared.reason.Reason.{Reason}
use Rattle.mh_validate_valid.specs.declared.reason.Reason.TheVariants as reasons
use Rattle.mh_validate_valid.specs.Valid.{AreTokenNamesDistinct, AreKernels, HasEdges, HasHeader, HasKernel, HasNoKernel, HasStates, IsInvalidAt, IsRightState, IsRightBefore, IsValidFor, HasWrongCells, raw_state, reason_of}
use Rattle.mh_validate_valid.proofs.ValidFailsNone.{never_wrong, right_at, same_edges, same_kernels}

cases_of : (s t : ℕ) → (s < t) ⊎ ((t < s) ⊎ (s ≡ t))
cases_of zero zero = inr (inr refl)
cases_of zero (suc t) = inl (omega arith)
cases_of (suc s) zero = inr (inl (omega arith))
cases_of (suc s) (suc t) = elim (cases_of s t) [
  | inl lt ↦ inl (omega (arith, lt))
  | inr (inl gt) ↦ inr (inl (omega (arith, gt)))
  | inr (inr same) ↦ inr (inr (ap (λ (n : ℕ). suc n) same))
]

module _ (g : Grammar) (n : AreTokenNamesDistinct g) (raw : RawTable) where
  pub automaton_is_one : (a b : Automaton) (ps qs : List StateParts) → IsValidFor g raw a ps → IsValidFor g raw b qs → a ≡ b
  automaton_is_one a b ps qs v w =
      let kernels : a.kernels ≡ b.kernels = same_kernels g n raw a.kernels b.kernels v.kernels w.kernels in
      let edges : a.edges ≡ b.edges = same_lists a.edges b.edges (v.rows ∙ sym w.rows) (λ s d lt.
      let inside : s < length raw.states = (let c = v.rows in omega (arith, c, lt)) in
      let other : s < length b.edges = (let c = w.rows in omega (arith, c, inside)) in
      let one : slice_index_or a.edges s [] ≡ slice_index_or b.edges s [] =
      same_edges g raw a.kernels s (slice_index_or a.edges s []) (slice_index_or b.edges s []) (v.each_state s inside).has_edges (right_at g n raw b qs w a.kernels v.kernels s inside).has_edges in
      get_or_default a.edges s d [] lt ∙ one ∙ sym (get_or_default b.edges s d [] other)) in
      λ i. record { kernels = kernels i; edges = edges i }

  -- The ways in which a file first fails a test, as one type.
  data Fails (state : Option ℕ) (reason : Reason) : Type 0 where
    OfHeader : state ≡ None → reason ≡ reasons.Header → (HasHeader g raw → ⊥) → Fails state reason
    OfStates : state ≡ None → reason ≡ reasons.States → HasHeader g raw → (HasStates g raw → ⊥) → Fails state reason
    OfKernel : (s : ℕ) → state ≡ Some s → reason ≡ reasons.Kernel → HasNoKernel g raw s → Fails state reason
    OfEdges : (s : ℕ) → state ≡ Some s → reason ≡ reasons.Edge → (h : IsRightBefore g raw s) → ((edges : List Edge) → HasEdges g raw h.kernels s edges → ⊥) → Fails state reason
    OfCells : (s : ℕ) → state ≡ Some s → (h : IsRightBefore g raw s) → HasWrongCells g raw h.kernels s reason → Fails state reason

  fails : (state : Option ℕ) (reason : Reason) → IsInvalidAt g raw state reason → Fails state reason
  fails None reasons.Header i = OfHeader refl refl i
  fails None reasons.States i = OfStates refl refl i.0 i.1
  fails None reasons.Kernel i = absurd i
  fails None reasons.Edge i = absurd i
  fails None reasons.Cell i = absurd i
  fails None reasons.Fallback i = absurd i
  fails (Some s) reasons.Header i = absurd i
  fails (Some s) reasons.States i = absurd i
  fails (Some s) reasons.Kernel i = OfKernel s refl refl i
  fails (Some s) reasons.Edge i = OfEdges s refl refl i.0 i.1
  fails (Some s) reasons.Cell i = OfCells s refl i.0 i.1
  fails (Some s) reasons.Fallback i = OfCells s refl i.0 i.1

  -- If all tests pass before state `t`, state `s < t` is right.
  earlier : (s t : ℕ) → IsRightBefore g raw t → s < t → (ks : List Kernel) → AreKernels g raw ks → (edges : List Edge) × (parts : StateParts) × IsRightState g raw ks s edges parts
  earlier s t h lt ks are =
      subst (λ (l : List Kernel). (edges : List Edge) × (parts : StateParts) × IsRightState g raw l s edges parts) (same_kernels g n raw h.kernels ks h.are_kernels are) (h.each_state s lt)

  no_edges_before : (s t : ℕ) (h : IsRightBefore g raw s) → ((edges : List Edge) → HasEdges g raw h.kernels s edges → ⊥) → IsRightBefore g raw t → s < t → ⊥
  no_edges_before s t h none k lt = let r = earlier s t k lt h.kernels h.are_kernels in none r.0 r.2.has_edges

  no_cells_before : (s t : ℕ) (reason : Reason) (h : IsRightBefore g raw s) → HasWrongCells g raw h.kernels s reason → IsRightBefore g raw t → s < t → ⊥
  no_cells_before s t reason h w k lt = let r = earlier s t k lt h.kernels h.are_kernels in never_wrong g raw h.kernels s r.0 r.1 reason r.2 w

  has_kernel : (s t : ℕ) → s < length raw.states → IsRightBefore g raw t → HasNoKernel g raw s → ⊥
  has_kernel s t known h none = none.none _ (h.are_kernels.each s known)

  kernel_before : (s t : ℕ) → HasNoKernel g raw s → HasNoKernel g raw t → s < t → ⊥
  kernel_before s t h k lt = h.none (k.before s lt).0 (k.before s lt).1

  -- The first fault of a file cannot be both wrong edges and wrong cells: all states before it are right, and the cells
  -- of a state are compared only if its edges are right.
  edges_not : (s t : ℕ) (reason : Reason) (h : IsRightBefore g raw s) → ((edges : List Edge) → HasEdges g raw h.kernels s edges → ⊥) → (k : IsRightBefore g raw t) → HasWrongCells g raw k.kernels t reason → ⊥
  edges_not s t reason h none k w = elim (cases_of s t) [
    | inl lt ↦ no_edges_before s t h none k lt
    | inr (inl gt) ↦ no_cells_before t s reason k w h gt
    | inr (inr same) ↦ (
        let here : HasEdges g raw k.kernels s w.edges = subst (λ (u : ℕ). HasEdges g raw k.kernels u w.edges) (sym same) w.has_edges in
        none w.edges (subst (λ (l : List Kernel). HasEdges g raw l s w.edges) (same_kernels g n raw k.kernels h.kernels k.are_kernels h.are_kernels) here))
  ]

  -- The reason that is reported for wrong cells is unique.
  cells_once : (ks : List Kernel) (s : ℕ) (r q : Reason) → HasWrongCells g raw ks s r → HasWrongCells g raw ks s q → r ≡ q
  cells_once ks s r q w v =
      let edges : w.edges ≡ v.edges = same_edges g raw ks s w.edges v.edges w.has_edges v.has_edges in
      let resolved = rw edges at w.resolved in
      let parts : w.parts ≡ v.parts = resolved_once raw.mode _ _ w.parts v.parts resolved v.resolved in
      w.reason_is ∙ ap (λ (p : StateParts). reason_of (raw_cells g p) (raw_state raw s).cells) parts ∙ sym v.reason_is

  cells_one : (s t : ℕ) (r q : Reason) (h : IsRightBefore g raw s) → HasWrongCells g raw h.kernels s r → (k : IsRightBefore g raw t) → HasWrongCells g raw k.kernels t q → (s ≡ t) × (r ≡ q)
  cells_one s t r q h w k v = elim (cases_of s t) [
    | inl lt ↦ absurd (no_cells_before s t r h w k lt)
    | inr (inl gt) ↦ absurd (no_cells_before t s q k v h gt)
    | inr (inr same) ↦ (
        let here : HasWrongCells g raw k.kernels s q = subst (λ (u : ℕ). HasWrongCells g raw k.kernels u q) (sym same) v in
        (same, cells_once h.kernels s r q w (subst (λ (l : List Kernel). HasWrongCells g raw l s q) (same_kernels g n raw k.kernels h.kernels k.are_kernels h.are_kernels) here)))
  ]

  edges_one : (s t : ℕ) (h : IsRightBefore g raw s) → ((edges : List Edge) → HasEdges g raw h.kernels s edges → ⊥) → (k : IsRightBefore g raw t) → ((edges : List Edge) → HasEdges g raw k.kernels t edges → ⊥) → s ≡ t
  edges_one s t h none k other = elim (cases_of s t) [
    | inl lt ↦ absurd (no_edges_before s t h none k lt)
    | inr (inl gt) ↦ absurd (no_edges_before t s k other h gt)
    | inr (inr same) ↦ same
  ]

  kernel_one : (s t : ℕ) → HasNoKernel g raw s → HasNoKernel g raw t → s ≡ t
  kernel_one s t h k = elim (cases_of s t) [
    | inl lt ↦ absurd (kernel_before s t h k lt)
    | inr (inl gt) ↦ absurd (kernel_before t s k h gt)
    | inr (inr same) ↦ same
  ]

  both_are : (s t : Option ℕ) (r q : Reason) (u v : ℕ) → s ≡ Some u → t ≡ Some v → u ≡ v → r ≡ q → (s ≡ t) × (r ≡ q)
  both_are s t r q u v a b same reason = (a ∙ ap (λ (x : ℕ). Some x) same ∙ sym b, reason)

  once : (s t : Option ℕ) (r q : Reason) → Fails s r → Fails t q → (s ≡ t) × (r ≡ q)
  once s t r q (OfHeader a b h) (OfHeader c d k) = (a ∙ sym c, b ∙ sym d)
  once s t r q (OfHeader a b h) (OfStates c d k l) = absurd (h k)
  once s t r q (OfHeader a b h) (OfKernel u c d k) = absurd (h k.header)
  once s t r q (OfHeader a b h) (OfEdges u c d k l) = absurd (h k.header)
  once s t r q (OfHeader a b h) (OfCells u c k l) = absurd (h k.header)
  once s t r q (OfStates a b h i) (OfHeader c d k) = absurd (k h)
  once s t r q (OfStates a b h i) (OfStates c d k l) = (a ∙ sym c, b ∙ sym d)
  once s t r q (OfStates a b h i) (OfKernel u c d k) = absurd (i k.states)
  once s t r q (OfStates a b h i) (OfEdges u c d k l) = absurd (i k.states)
  once s t r q (OfStates a b h i) (OfCells u c k l) = absurd (i k.states)
  once s t r q (OfKernel v a b h) (OfHeader c d k) = absurd (k h.header)
  once s t r q (OfKernel v a b h) (OfStates c d k l) = absurd (l h.states)
  once s t r q (OfKernel v a b h) (OfKernel u c d k) = both_are s t r q v u a c (kernel_one v u h k) (b ∙ sym d)
  once s t r q (OfKernel v a b h) (OfEdges u c d k l) = absurd (has_kernel v u h.known k h)
  once s t r q (OfKernel v a b h) (OfCells u c k l) = absurd (has_kernel v u h.known k h)
  once s t r q (OfEdges v a b h i) (OfHeader c d k) = absurd (k h.header)
  once s t r q (OfEdges v a b h i) (OfStates c d k l) = absurd (l h.states)
  once s t r q (OfEdges v a b h i) (OfKernel u c d k) = absurd (has_kernel u v k.known h k)
  once s t r q (OfEdges v a b h i) (OfEdges u c d k l) = both_are s t r q v u a c (edges_one v u h i k l) (b ∙ sym d)
  once s t r q (OfEdges v a b h i) (OfCells u c k l) = absurd (edges_not v u q h i k l)
  once s t r q (OfCells v a h i) (OfHeader c d k) = absurd (k h.header)
  once s t r q (OfCells v a h i) (OfStates c d k l) = absurd (l h.states)
  once s t r q (OfCells v a h i) (OfKernel u c d k) = absurd (has_kernel u v k.known h k)
  once s t r q (OfCells v a h i) (OfEdges u c d k l) = absurd (edges_not u v r k l h i)
  once s t r q (OfCells v a h i) (OfCells u c k l) = let one = cells_one v u r q h i k l in both_are s t r q v u a c one.0 one.1

  pub test_is_one : (s t : Option ℕ) (r q : Reason) → IsInvalidAt g raw s r → IsInvalidAt g raw t q → (s ≡ t) × (r ≡ q)
  test_is_one s t r q i j = once s t r q (fails s r i) (fails t q j)
