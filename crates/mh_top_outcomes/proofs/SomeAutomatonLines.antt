-- Proves, as a double negation, that an automaton and its table have lines.
use Rattle.std.proofs.Common.{◌≡◌, ◌⊎◌, inl, inr, ℕ, List, [], ◌∷◌, ◌++◌, refl}
use Rattle.mh_grammar.specs.declared.types.Grammar.{Grammar}
use Rattle.mh_grammar.specs.declared.types.Look.{Look}
use Rattle.mh_grammar.specs.Text.{Text}
use Rattle.mh_grammar.specs.NotLacking.{NotLacking}
use Rattle.mh_grammar.proofs.NotLacking.{chain, decided, given}
use Rattle.mh_items_kernels.specs.KernelTypes.{Automaton}
use Rattle.mh_lint_findings.specs.Lines.{Line}
use Rattle.mh_lint_findings.specs.LinesInOrder.{AreInOrder}
use Rattle.mh_lint_findings.specs.LinesInOrder as order
use Rattle.mh_lint_states.specs.AutomatonLines.{AreAutomatonLines, AreConflictLines, AreProductionLines, ordinary}
use Rattle.mh_lint_states.specs.AutomatonLines as lines
use Rattle.mh_lint_states.specs.ConflictKinds.{CanReduceTwo, CanShift, IsKindText}
use Rattle.mh_lint_states.specs.ConflictKinds as kinds
use Rattle.mh_lint_states.specs.Reductions.{IsReduced}
use Rattle.mh_resolve_cells.specs.declared.conflicts.Conflict.{Conflict}
use Rattle.mh_resolve_cells.specs.declared.kinds.ConflictKind.{ConflictKind}
use Rattle.mh_resolve_cells.specs.declared.kinds.ConflictKind.TheVariants.{Solved, Stream, Unsolved}
use Rattle.mh_tables_core.specs.Table.{TableData}

-- If each item of a list cannot lack lines, neither can the list.
pub some_in_order : {A : Type 0} (Of : A → List Line → Type 0) → ((x : A) → NotLacking ((l : List Line) × Of x l)) → (xs : List A) → NotLacking ((l : List Line) × AreInOrder Of xs l)
some_in_order Of some [] = given ([], order.AreInOrder.none)
some_in_order Of some (x ∷ xs) = chain (some x) (λ first. chain (some_in_order Of some xs) (λ rest. given (first.0 ++ rest.0, order.AreInOrder.more first.1 rest.1 refl)))

module _ (g : Grammar) (a : Automaton) (t : TableData) where
  production_lines : (p : ℕ) → IsReduced t p ⊎ (IsReduced t p → ⊥) → (l : List Line) × AreProductionLines g t p l
  production_lines p (inl is) = ([], lines.AreProductionLines.reduced is)
  production_lines p (inr never) = (_, lines.AreProductionLines.never_reduced never)

  some_production_lines : (p : ℕ) → NotLacking ((l : List Line) × AreProductionLines g t p l)
  some_production_lines p = chain (decided (IsReduced t p)) (λ d. given (production_lines p d))

  kind_text : (s : ℕ) (look : Look) → CanShift g a s look ⊎ (CanShift g a s look → ⊥) → CanReduceTwo g a s look ⊎ (CanReduceTwo g a s look → ⊥) → (k : Text) × IsKindText g a s look k
  kind_text s look (inl shift) (inl two) = (_, kinds.IsKindText.shift_reduce_reduce shift two)
  kind_text s look (inl shift) (inr one) = (_, kinds.IsKindText.shift_reduce shift one)
  kind_text s look (inr never) d = (_, kinds.IsKindText.reduce_reduce never)

  some_conflict_lines : (c : Conflict) → NotLacking ((l : List Line) × AreConflictLines g a c l)
  some_conflict_lines c = by c.kind refl
    where
      by : (k : ConflictKind) → c.kind ≡ k → NotLacking ((l : List Line) × AreConflictLines g a c l)
      by Solved e = given ([], lines.AreConflictLines.solved e)
      by Stream e = given (_, lines.AreConflictLines.stream e)
      by Unsolved e = chain (decided (CanShift g a c.state c.look)) (λ shift. chain (decided (CanReduceTwo g a c.state c.look)) (λ two. (let kind = kind_text c.state c.look shift two in given (_, lines.AreConflictLines.unsolved kind.0 e kind.1))))

  pub some_automaton_lines : (conflicts : List Conflict) → NotLacking ((l : List Line) × AreAutomatonLines g a t conflicts l)
  some_automaton_lines conflicts =
      chain (some_in_order (AreProductionLines g t) some_production_lines (ordinary g))
      (λ productions. chain (some_in_order (AreConflictLines g a) some_conflict_lines conflicts)
      (λ others. given (productions.0 ++ others.0, record { unreduced = productions.0; of_conflicts = others.0; are_unreduced = productions.1; are_conflicts = others.1; is = refl })))
