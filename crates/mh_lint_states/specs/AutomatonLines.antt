-- The lines that report what is wrong with an automaton and its table, without places: the ordinary productions that no
-- state reduces, in order; then the conflicts that levels did not decide, and the end-of-stream conflicts, in the order
-- of the list of conflicts.
use Rattle.std.specs.Prelude.{◌≡◌, ◌++◌, ℕ, List, [], ◌∷◌, length, map, codes, decimal}
use Rattle.std.specs.List.{enumerate_from}
use Rattle.mh_grammar.specs.declared.types.Grammar.{Grammar}
use Rattle.mh_grammar.specs.declared.types.Production.{Production}
use Rattle.mh_grammar.specs.Text.{Text}
use Rattle.mh_grammar_texts.specs.Productions.{production_text}
use Rattle.mh_items_kernels.specs.KernelTypes.{Automaton}
use Rattle.mh_tables_core.specs.Table.{TableData}
use Rattle.mh_resolve_cells.specs.Names.{look_name}
use Rattle.mh_resolve_cells.specs.declared.conflicts.Conflict.{Conflict}
use Rattle.mh_resolve_cells.specs.declared.kinds.ConflictKind.TheVariants.{Solved, Unsolved, Stream}
use Rattle.mh_lint_findings.specs.Lines.{Line, line}
use Rattle.mh_lint_findings.specs.LinesInOrder.{AreInOrder}
use Rattle.mh_lint_findings.specs.declared.findings.Position.TheVariants.{OfAutomaton}
use Rattle.mh_lint_states.specs.ConflictKinds.{IsKindText}
use Rattle.mh_lint_states.specs.Reductions.{IsReduced}

-- The line for production p: none if some state reduces the production.
pub data AreProductionLines (g : Grammar) (t : TableData) (p : ℕ) : List Line → Type 0 where
  reduced : IsReduced t p → AreProductionLines g t p []
  never_reduced : (IsReduced t p → ⊥) → AreProductionLines g t p (line OfAutomaton (codes "never reduced: " ++ production_text g p) ∷ [])

-- The line for a conflict; none for a conflict that levels decide.
pub data AreConflictLines (g : Grammar) (a : Automaton) (c : Conflict) : List Line → Type 0 where
  solved : c.kind ≡ Solved → AreConflictLines g a c []
  unsolved : (kind : Text) → c.kind ≡ Unsolved → IsKindText g a c.state c.look kind
      → AreConflictLines g a c (line OfAutomaton (kind ++ codes " conflict in state " ++ decimal c.state ++ codes " on " ++ look_name g c.look) ∷ [])
  stream : c.kind ≡ Stream → AreConflictLines g a c (line OfAutomaton (codes "end-of-stream conflict in state " ++ decimal c.state) ∷ [])

-- The numbers of the ordinary productions.
abbrev pub ordinary : Grammar → List ℕ
ordinary g = map (λ (e : ℕ × Production). e.0) (enumerate_from (length g.starts) g.productions)

pub record AreAutomatonLines (g : Grammar) (a : Automaton) (t : TableData) (conflicts : List Conflict) (lines : List Line) : Type 0 where
  pub unreduced : List Line
  pub of_conflicts : List Line
  pub are_unreduced : AreInOrder (AreProductionLines g t) (ordinary g) unreduced
  pub are_conflicts : AreInOrder (AreConflictLines g a) conflicts of_conflicts
  pub is : lines ≡ unreduced ++ of_conflicts
