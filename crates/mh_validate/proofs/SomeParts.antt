-- Proves that no state lacks the actions that conflict resolution gives.
use Rattle.std.proofs.Common.{◌≡◌, ℕ, ◌+◌, ◌<◌, ◌⊎◌, inl, inr, List, length, map, Option, None, Some, refl, subst, arith}
use Rattle.std.specs.Prelude.{slice_index_or}
use Rattle.std.proofs.lemmas.Bool.{cases_lt}
use Rattle.mh_tables_core.specs.declared.parts.Action.{Action}
use Rattle.mh_tables_core.specs.declared.parts.Action.TheVariants.{Refuse}
use Rattle.mh_tables_core.specs.declared.parts.Fallback.{Fallback}
use Rattle.mh_tables_core.specs.declared.parts.Fallback.TheVariants as fallbacks
use Rattle.mh_tables_core.specs.declared.parts.StateParts.{StateParts}
use Rattle.mh_items_kernels.specs.KernelTypes.{Kernel}
use Rattle.mh_resolve_cells.specs.declared.kinds.Mode.{Mode}
use Rattle.mh_resolve_cells.specs.States.{State, HasDefault, IsFallback, FillsCell, IsCell, IsResolved, core_item_of}
use Rattle.mh_grammar.specs.NotLacking.{NotLacking}
use Rattle.mh_grammar.proofs.NotLacking.{given, chain, decided, tabled}

module _ (mode : Mode) (s : State) where
  cell_by : (z : ℕ) → ((a : Action) × FillsCell mode s z a) ⊎ (((a : Action) × FillsCell mode s z a) → ⊥) → (a : Action) × IsCell mode s z a
  cell_by z (inl f) = (f.0, inl f.1)
  cell_by z (inr none) = (Refuse, inr (refl, λ b f. none (b, f)))

  cell : (z : ℕ) → NotLacking ((a : Action) × IsCell mode s z a)
  cell z = chain (decided ((a : Action) × FillsCell mode s z a)) (λ d. given (cell_by z d))

  fallback_by : ((p : ℕ) × HasDefault mode s p) ⊎ (((p : ℕ) × HasDefault mode s p) → ⊥) → (f : Option Fallback) × IsFallback mode s f
  fallback_by (inr none) = (None, λ p d. none (p, d))
  fallback_by (inl d) = elim (cases_lt d.0 (length s.grammar.starts)) [
    | inl l ↦ (Some fallbacks.Accept, (d.0, l, d.1))
    | inr l ↦ (Some (fallbacks.Reduce d.0), (l, d.1))
  ]

  fallback : NotLacking ((f : Option Fallback) × IsFallback mode s f)
  fallback = chain (decided ((p : ℕ) × HasDefault mode s p)) (λ d. given (fallback_by d))

  pub some_parts : (kernel : Kernel) → NotLacking ((parts : StateParts) × IsResolved mode s kernel parts)
  some_parts kernel = chain (tabled Refuse (λ z a. IsCell mode s z a) 0 (length s.grammar.tokens) (λ i l. cell (0 + i))) (λ cells. chain fallback (λ f. given (
    record { cells = cells.0; fallback = f.0; edges = s.edges; core = map core_item_of kernel.items },
    record {
      width = cells.1;
      cells = λ z l. subst (λ (k : ℕ). IsCell mode s k (slice_index_or cells.0 z Refuse)) (let e : 0 + z ≡ z = omega arith in e) (cells.2 z l);
      fallback = f.1;
      edges = refl;
      core = refl;
    },
  )))
