-- Lemmas on the result for a file whose header and kernels are right.
use Rattle.std.proofs.Common.{◌≡◌, ◌⊎◌, ◌<◌, ◌≤◌, ℕ, Bool, true, false, List, [], length, Option, Some, Result, Ok, Err, IfOk, if◌then◌else◌, get_or, refl, sym, ◌∙◌, subst, arith, inl, inr, true≢false}
use Rattle.std.specs.Prelude.{slice_index_or, is_ok, IsTrue, ◌↔◌}
use Rattle.mh_grammar.specs.declared.types.Grammar.{Grammar}
use Rattle.mh_grammar.specs.declared.types.Symbol.TheVariants.{T}
use Rattle.mh_grammar.specs.declared.edges.Edge.{Edge}
use Rattle.mh_grammar.specs.Plain.{plain_of, IsInRange}
use Rattle.mh_items_kernels.specs.KernelTypes.{Kernel, Automaton}
use Rattle.mh_items_kernels.specs.Automaton.{no_kernel, kernel_at, edges_at}
use Rattle.mh_tables_core.specs.declared.parts.StateParts.{StateParts}
use Rattle.mh_tables_core.specs.Table.{no_state}
use Rattle.std.proofs.lemmas.List.{get_or_default}
use Rattle.mh_resolve_cells.specs.States.{AreResolved, IsResolved, closed_state}
use Rattle.mh_resolve_cells.specs.code.StateResults.{AreEdgesKnown}
use Rattle.mh_resolve_cells.proofs.TableFacts.{moving_symbol}
use Rattle.mh_tabfile_form.specs.declared.types.RawTable.{RawTable}
use Rattle.mh_tabfile_form.specs.TableContent.{raw_cells}
use Rattle.mh_validate_valid.specs.declared.reason.Reason.{Reason}
use Rattle.mh_validate_valid.specs.declared.reason.Reason.TheVariants as reasons
use Rattle.mh_validate_valid.specs.Valid.{HasHeader, HasStates, AreKernels, HasEdges, IsResolvedAt, IsRightBefore, HasWrongCells, AreTokenNamesDistinct, IsInvalidAt, IsValid, IsValidFor, has_cell_lines, reason_of, without_edges, raw_state}
use Rattle.mh_validate_valid.proofs.ValidFailsNone.{valid_not_invalid}
use Rattle.mh_validate_valid.proofs.ValidIsAutomaton.{IsNamed}
use Rattle.mh_validate.specs.declared.fault.ValidFault.{ValidFault}
use Rattle.mh_validate.specs.declared.fault.ValidFault.TheVariants.{Invalid, Memory}
use Rattle.mh_validate.specs.declared.validation.Valid.{Valid}
use Rattle.mh_validate.specs.Outcome.{IsFault, IsOutcome, IsValidResult}
use Rattle.mh_validate.specs.code.FirstKernels.{AreFirstKernels}
use Rattle.mh_validate.specs.code.FirstRows.{AreFirstRows, AreRows, AreResolvedRows}

-- If no state lacks a kernel, these are the kernels of all states.
pub all_kernels : (g : Grammar) (raw : RawTable) (ks : List Kernel) → AreFirstKernels g raw ks → length raw.states ≤ length ks → AreKernels g raw ks
all_kernels g raw ks h past = let count : length ks ≡ length raw.states = (let w = h.within in omega (arith, w, past)) in record { count = count; each = λ s lt. h.each s (omega (arith, count, lt)) }

pub all_rows : (g : Grammar) (raw : RawTable) (ks : List Kernel) (rows : List (List Edge)) → AreFirstRows g raw ks rows → length raw.states ≤ length rows → AreRows g raw ks rows
all_rows g raw ks rows h past = let count : length rows ≡ length raw.states = (let w = h.within in omega (arith, w, past)) in record { count = count; each = λ s lt. h.each s (omega (arith, count, lt)) }

-- The edges on tokens are edges on tokens of the grammar.
pub edges_known : (g : Grammar) (raw : RawTable) (ks : List Kernel) (s : ℕ) (edges : List Edge) → IsInRange (plain_of g) → HasEdges g raw ks s edges → AreEdgesKnown (length g.tokens) edges
edges_known g raw ks s edges range h z j found = moving_symbol (plain_of g) (without_edges ks) range s (T z) (h.are_edges.target (T z) j found).0

-- A state whose cells are wrong.

reason_two : (x y : Bool) → ((if x then reasons.Cell else if y then reasons.Cell else reasons.Fallback) ≡ reasons.Cell) ⊎ ((if x then reasons.Cell else if y then reasons.Cell else reasons.Fallback) ≡ reasons.Fallback)
reason_two true y = inl refl
reason_two false true = inl refl
reason_two false false = inr refl

module _ (g : Grammar) (raw : RawTable) (header : HasHeader g raw) (states : HasStates g raw) (ks : List Kernel) (are : AreKernels g raw ks) (rows : List (List Edge)) (parts : List StateParts) where
  -- All states before `s` are right, if their edges are right and their cells are those of the parts.
  abbrev right_before : (s : ℕ) → s < length raw.states → ((u : ℕ) → u < s → HasEdges g raw ks u (slice_index_or rows u [])) → ((u : ℕ) → u < s → IsResolvedAt g raw ks u (slice_index_or rows u []) (slice_index_or parts u no_state))
      → ((u : ℕ) → u < s → (raw_state raw u).cells ≡ raw_cells g (slice_index_or parts u no_state)) → IsRightBefore g raw s
  right_before s known edges resolved told = record {
    header = header;
    states = states;
    kernels = ks;
    are_kernels = are;
    known = known;
    each_state = λ u lt. (slice_index_or rows u [], slice_index_or parts u no_state, record { has_edges = edges u lt; resolved = resolved u lt; has_cells = told u lt });
  }

  pub cell_fault : (s n : ℕ) → s < n → n ≤ length raw.states → ((u : ℕ) → u < n → HasEdges g raw ks u (slice_index_or rows u [])) → ((u : ℕ) → u < n → IsResolvedAt g raw ks u (slice_index_or rows u []) (slice_index_or parts u no_state))
      → ((u : ℕ) → u < s → (raw_state raw u).cells ≡ raw_cells g (slice_index_or parts u no_state)) → ((raw_state raw s).cells ≡ raw_cells g (slice_index_or parts s no_state) → ⊥)
      → IsInvalidAt g raw (Some s) (reason_of (raw_cells g (slice_index_or parts s no_state)) (raw_state raw s).cells)
  cell_fault s n lt within edges resolved told differ =
      let due = raw_cells g (slice_index_or parts s no_state) in
      let found = (raw_state raw s).cells in
      let before = right_before s (omega (arith, lt, within)) (λ u l. edges u (omega (arith, l, lt))) (λ u l. resolved u (omega (arith, l, lt))) told in
      let wrong : (r : Reason) → r ≡ reason_of due found → HasWrongCells g raw ks s r = λ r e. record { edges = slice_index_or rows s []; parts = slice_index_or parts s no_state; has_edges = edges s lt; resolved = resolved s lt; differ = differ; reason_is = e } in
      elim (reason_two (has_cell_lines due) (has_cell_lines found)) [
        | inl e ↦ subst (λ r. IsInvalidAt g raw (Some s) r) (sym e) (before, wrong reasons.Cell (sym e))
        | inr e ↦ subst (λ r. IsInvalidAt g raw (Some s) r) (sym e) (before, wrong reasons.Fallback (sym e))
      ]

  pub edge_fault : AreFirstRows g raw ks rows → length rows < length raw.states → AreResolvedRows g raw ks rows parts → ((u : ℕ) → u < length rows → (raw_state raw u).cells ≡ raw_cells g (slice_index_or parts u no_state)) → IsInvalidAt g raw (Some (length rows)) reasons.Edge
  edge_fault first short resolved told = (right_before (length rows) short first.each resolved.each told, first.none short)

-- A file whose edges are all right.

pub resolved_at : (g : Grammar) (raw : RawTable) (a : Automaton) (parts : List StateParts) → AreKernels g raw a.kernels → AreResolved g a raw.mode parts → (s : ℕ) → s < length raw.states → IsResolvedAt g raw a.kernels s (slice_index_or a.edges s []) (slice_index_or parts s no_state)
unfolding kernel_at edges_at
resolved_at g raw a parts are r s lt = r.each s (let n = are.count in omega (arith, n, lt))

pub valid_by_tests : (g : Grammar) (raw : RawTable) (a : Automaton) (parts : List StateParts) → HasHeader g raw → HasStates g raw → AreKernels g raw a.kernels → AreRows g raw a.kernels a.edges → AreResolved g a raw.mode parts
    → ((s : ℕ) → s < length raw.states → (raw_state raw s).cells ≡ raw_cells g (slice_index_or parts s no_state)) → IsValidFor g raw a parts
valid_by_tests g raw a parts header states are rows resolved told = record {
  header = header;
  states = states;
  kernels = are;
  rows = rows.count;
  count = resolved.count ∙ are.count;
  each_state = λ s lt. record { has_edges = rows.each s lt; resolved = resolved_at g raw a parts are resolved s lt; has_cells = told s lt };
}

-- Lemmas on one state.

pub row_has : (g : Grammar) (raw : RawTable) (ks : List Kernel) (rows : List (List Edge)) (s : ℕ) (row edges : List Edge) → s < length rows → row ≡ get_or rows s row → edges ≡ row → HasEdges g raw ks s (slice_index_or rows s []) → HasEdges g raw ks s edges
row_has g raw ks rows s row edges lt e f h = subst (HasEdges g raw ks s) (sym (f ∙ e ∙ get_or_default rows s row [] lt)) h

pub resolved_here : (g : Grammar) (raw : RawTable) (ks : List Kernel) (rows : List (List Edge)) (s : ℕ) (k : Kernel) (row edges : List Edge) (parts : StateParts) → s < length ks → k ≡ get_or ks s k → s < length rows → row ≡ get_or rows s row → edges ≡ row
    → IsResolved raw.mode (closed_state g k edges) k parts → IsResolvedAt g raw ks s (slice_index_or rows s []) parts
resolved_here g raw ks rows s k row edges parts lk ek lr er f h =
    let kernel : k ≡ slice_index_or ks s no_kernel = ek ∙ get_or_default ks s k no_kernel lk in
    let same : edges ≡ slice_index_or rows s [] = f ∙ er ∙ get_or_default rows s row [] lr in
    subst (λ (x : Kernel). IsResolved raw.mode (closed_state g x (slice_index_or rows s [])) x parts) kernel (subst (λ (es : List Edge). IsResolved raw.mode (closed_state g k es) k parts) same h)

pub wrong_fault : (g : Grammar) (raw : RawTable) (parts : List StateParts) (s : ℕ) (p : StateParts) (fault : ValidFault) → s < length parts → p ≡ get_or parts s p → fault ≡ Invalid (Some s) (reason_of (raw_cells g p) (raw_state raw s).cells)
    → IsInvalidAt g raw (Some s) (reason_of (raw_cells g (slice_index_or parts s no_state)) (raw_state raw s).cells) → IsFault g raw fault
wrong_fault g raw parts s p fault lt e told h =
    let same : slice_index_or parts s no_state ≡ p = get_or_default parts s no_state p lt ∙ sym e in
    subst (IsFault g raw) (sym told) (subst (λ (q : StateParts). IsInvalidAt g raw (Some s) (reason_of (raw_cells g q) (raw_state raw s).cells)) same h)

pub edges_fault : (g : Grammar) (raw : RawTable) (s n : ℕ) → s ≡ n → IsInvalidAt g raw (Some n) reasons.Edge → IsInvalidAt g raw (Some s) reasons.Edge
edges_fault g raw s n e h = subst (λ k. IsInvalidAt g raw (Some k) reasons.Edge) (sym e) h

-- An automaton with its table.

pub named : (g : Grammar) (raw : RawTable) (a : Automaton) → HasStates g raw → AreKernels g raw a.kernels → AreRows g raw a.kernels a.edges → IsNamed g raw a
named g raw a states are rows = record { states = states; kernels = are; rows = rows.count; each = rows.each }

-- Lemmas on the results of the calls.

pub outcome_ok : {W : ℕ} (g : Grammar) (raw : RawTable) (r : Result (Valid W) ValidFault) → IsOutcome g raw r → IfOk r (λ (v : Valid W). IsValidResult g raw v)
outcome_ok g raw (Ok v) h = h
outcome_ok g raw (Err fault) h = tt

fault_is : (f : ValidFault) (g : Grammar) (raw : RawTable) (state : Option ℕ) (reason : Reason) → IsFault g raw f → f ≡ Invalid state reason → IsInvalidAt g raw state reason
fault_is f g raw state reason h e = subst (IsFault g raw) e h

pub outcome_fault : {W : ℕ} (g : Grammar) (raw : RawTable) (r : Result (Valid W) ValidFault) → IsOutcome g raw r → (state : Option ℕ) (reason : Reason) → r ≡ Err (Invalid state reason) → IsInvalidAt g raw state reason
outcome_fault g raw (Ok v) h state reason e = cc
outcome_fault g raw (Err fault) h state reason e = fault_is fault g raw state reason h cc

-- Unless memory runs out, the result is Ok exactly if the content is valid.
pub outcome_exact : {W : ℕ} (g : Grammar) → AreTokenNamesDistinct g → (raw : RawTable) (r : Result (Valid W) ValidFault) → IsOutcome g raw r → (r ≡ Err Memory) ⊎ (IsTrue (is_ok r) ↔ IsValid g raw)
outcome_exact g distinct raw (Ok v) h = inr ((λ t. (v.automaton, v.table.states, h.valid)), λ is. refl)
outcome_exact g distinct raw (Err (Invalid state reason)) h = inr ((λ t. absurd (true≢false (sym t))), λ is. absurd (valid_not_invalid g distinct raw state reason is h))
outcome_exact g distinct raw (Err Memory) h = inl refl

-- State `n` has no kernel.
pub kernel_fault : (g : Grammar) (raw : RawTable) (ks : List Kernel) (n : ℕ) → HasHeader g raw → HasStates g raw → AreFirstKernels g raw ks → n ≡ length ks → length ks < length raw.states → IsInvalidAt g raw (Some n) reasons.Kernel
kernel_fault g raw ks n header states first e short = subst (λ k. IsInvalidAt g raw (Some k) reasons.Kernel) (sym e)
    (record { header = header; states = states; known = short; before = λ u lt. (slice_index_or ks u no_kernel, first.each u lt); none = first.none short })
