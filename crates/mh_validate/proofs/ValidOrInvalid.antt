-- Proves the double negation (`NotLacking`) of: the content of a table file is valid, or there is a first test that it
-- fails.
use Rattle.mh_resolve_cells.specs.States.{closed_state}
use Rattle.std.proofs.Common.{◌≡◌, ℕ, ◌+◌, ◌<◌, ◌≤◌, ◌⊎◌, inl, inr, List, [], ◌∷◌, length, Option, None, Some, refl, sym, subst, arith}
use Rattle.std.specs.Prelude.{slice_index_or}
use Rattle.std.proofs.lemmas.Bool.{cases_lt}
use Rattle.mh_grammar.specs.declared.types.Grammar.{Grammar}
use Rattle.mh_grammar.specs.declared.edges.Edge.{Edge}
use Rattle.mh_items_kernels.specs.KernelTypes.{Kernel, Automaton}
use Rattle.mh_items_kernels.specs.Automaton.{no_kernel}
use Rattle.mh_tables_core.specs.declared.parts.StateParts.{StateParts}
use Rattle.mh_tables_core.specs.Table.{no_state}
use Rattle.mh_tabfile_form.specs.declared.types.RawCells.{RawCells}
use Rattle.mh_tabfile_form.specs.declared.types.RawCells.TheVariants as cells
use Rattle.mh_tabfile_form.specs.declared.types.RawTable.{RawTable}
use Rattle.mh_tabfile_form.specs.TableContent.{raw_cells}
use Rattle.mh_validate_valid.specs.declared.reason.Reason.{Reason}
use Rattle.mh_validate_valid.specs.declared.reason.Reason.TheVariants as reasons
use Rattle.mh_validate_valid.specs.Valid.{HasHeader, HasStates, HasKernel, AreKernels, HasEdges, IsResolvedAt, IsRightState, HasWrongCells, IsValid, IsRightBefore, HasNoKernel, IsInvalidAt, raw_state, reason_of}
use Rattle.mh_grammar.specs.NotLacking.{NotLacking}
use Rattle.mh_grammar.proofs.NotLacking.{given, chain, decided, Lacks, lacks_or, tabled}
use Rattle.mh_validate.proofs.SomeParts.{some_parts}

found_reason : (found : RawCells) → (reason_of (cells.Cells []) found ≡ reasons.Cell) ⊎ (reason_of (cells.Cells []) found ≡ reasons.Fallback)
found_reason (cells.Cells []) = inr refl
found_reason (cells.Cells (c ∷ cs)) = inl refl
found_reason (cells.Fallback f) = inr refl

reason_cases : (due found : RawCells) → (reason_of due found ≡ reasons.Cell) ⊎ (reason_of due found ≡ reasons.Fallback)
reason_cases (cells.Cells []) found = found_reason found
reason_cases (cells.Cells (c ∷ cs)) found = inl refl
reason_cases (cells.Fallback f) found = found_reason found

module _ (g : Grammar) (raw : RawTable) where
  abbrev Tested : Type 0
  Tested = IsValid g raw ⊎ ((state : Option ℕ) × (reason : Reason) × IsInvalidAt g raw state reason)

  abbrev HasSome : ℕ → Type 0
  HasSome s = (k : Kernel) × HasKernel g raw s k

  module _ (header : HasHeader g raw) (states : HasStates g raw) where
    no_kernel_at : Lacks HasSome (length raw.states) → Tested
    no_kernel_at w = inr (Some w.at, reasons.Kernel, record { header = header; states = states; known = w.within; before = w.before; none = λ k h. w.not (k, h) })

    module _ (ks : List Kernel) (are : AreKernels g raw ks) where
      abbrev RightAt : ℕ → Type 0
      RightAt s = (edges : List Edge) × (parts : StateParts) × IsRightState g raw ks s edges parts

      abbrev before : (s : ℕ) → s < length raw.states → ((u : ℕ) → u < s → RightAt u) → IsRightBefore g raw s
      before s l right = record { header = header; states = states; kernels = ks; are_kernels = are; known = l; each_state = right }

      wrong : (s : ℕ) (l : s < length raw.states) (right : (u : ℕ) → u < s → RightAt u) (edges : List Edge) (parts : StateParts) → HasEdges g raw ks s edges → IsResolvedAt g raw ks s edges parts → ((raw_state raw s).cells ≡ raw_cells g parts → ⊥) → Tested
      wrong s l right edges parts he res differ = elim (reason_cases (raw_cells g parts) (raw_state raw s).cells) [
        | inl e ↦ inr (Some s, reasons.Cell, (before s l right, record { edges = edges; parts = parts; has_edges = he; resolved = res; differ = differ; reason_is = sym e }))
        | inr e ↦ inr (Some s, reasons.Fallback, (before s l right, record { edges = edges; parts = parts; has_edges = he; resolved = res; differ = differ; reason_is = sym e }))
      ]

      not_right : Lacks RightAt (length raw.states) → NotLacking Tested
      not_right w = chain (decided ((edges : List Edge) × HasEdges g raw ks w.at edges)) (λ d. elim d [
        | inr none ↦ given (inr (Some w.at, reasons.Edge, (before w.at w.within w.before, λ edges h. none (edges, h))))
        | inl e ↦ chain (some_parts raw.mode (closed_state g (slice_index_or ks w.at no_kernel) e.0) (slice_index_or ks w.at no_kernel)) (λ p. given (
            wrong w.at w.within w.before e.0 p.0 e.1 p.1 (λ same. w.not (e.0, p.0, record { has_edges = e.1; resolved = p.1; has_cells = same }))))
      ])

      at_zero : (P : ℕ → Type 0) (i : ℕ) → P (0 + i) → P i
      at_zero P i h = subst P (let e : 0 + i ≡ i = omega arith in e) h

      all_right : ((s : ℕ) → s < length raw.states → RightAt s) → NotLacking Tested
      all_right right = chain (tabled [] (λ s edges. (parts : StateParts) × IsRightState g raw ks s edges parts) 0 (length raw.states) (λ i l. given (let r = right (0 + i) (omega (arith, l)) in (r.0, (r.1, r.2))))) (λ rows.
          chain (tabled no_state (λ s parts. IsRightState g raw ks s (slice_index_or rows.0 s []) parts) 0 (length raw.states) (λ i l. given (subst (λ (k : ℕ). (parts : StateParts) × IsRightState g raw ks k (slice_index_or rows.0 k []) parts) (let e : i ≡ 0 + i = omega arith in e) (at_zero (λ k. (parts : StateParts) × IsRightState g raw ks k (slice_index_or rows.0 i []) parts) i (rows.2 i l))))) (λ parts. given (inl (
            record { kernels = ks; edges = rows.0 },
            parts.0,
            record {
              header = header;
              states = states;
              kernels = are;
              rows = rows.1;
              count = parts.1;
              each_state = λ s l. at_zero (λ k. IsRightState g raw ks k (slice_index_or rows.0 k []) (slice_index_or parts.0 s no_state)) s (parts.2 s l);
            },
          ))))

      with_kernels : NotLacking Tested
      with_kernels = chain (lacks_or RightAt (length raw.states)) (λ r. elim r [ inl w ↦ not_right w | inr right ↦ all_right right ])

    kernels : ((s : ℕ) → s < length raw.states → HasSome s) → NotLacking Tested
    kernels some = chain (tabled no_kernel (λ s k. HasKernel g raw s k) 0 (length raw.states) (λ i l. given (some (0 + i) (omega (arith, l))))) (λ ks.
        with_kernels ks.0 (record { count = ks.1; each = λ s l. subst (λ (k : ℕ). HasKernel g raw k (slice_index_or ks.0 s no_kernel)) (let e : 0 + s ≡ s = omega arith in e) (ks.2 s l) }))

    with_states : NotLacking Tested
    with_states = chain (lacks_or HasSome (length raw.states)) (λ r. elim r [ inl w ↦ given (no_kernel_at w) | inr some ↦ kernels some ])

  with_header : HasHeader g raw → NotLacking Tested
  with_header header = elim (cases_lt (length raw.states) (length g.starts)) [
    | inl few ↦ given (inr (None, reasons.States, (header, λ enough. omega (arith, few, enough))))
    | inr enough ↦ with_states header enough
  ]

  pub valid_or_invalid : NotLacking Tested
  valid_or_invalid = chain (decided (HasHeader g raw)) (λ d. elim d [ inl header ↦ with_header header | inr none ↦ given (inr (None, reasons.Header, none)) ])
