-- The lines on an automaton and its table are unique.
use Rattle.std.proofs.Common.{◌≡◌, ℕ, List, ◌++◌, refl, sym, ap, ◌∙◌}
use Rattle.mh_grammar.specs.declared.types.Grammar.{Grammar}
use Rattle.mh_grammar.specs.declared.types.Look.{Look}
use Rattle.mh_grammar.specs.Text.{Text}
use Rattle.mh_items_kernels.specs.KernelTypes.{Automaton}
use Rattle.mh_tables_core.specs.Table.{TableData}
use Rattle.mh_resolve_cells.specs.declared.conflicts.Conflict.{Conflict}
use Rattle.mh_lint_findings.specs.Lines.{Line}
use Rattle.mh_lint_findings.proofs.AreInOrder.{in_order_once}
use Rattle.mh_lint_states.specs.AutomatonLines.{AreAutomatonLines, AreConflictLines, AreProductionLines, ordinary}
use Rattle.mh_lint_states.specs.AutomatonLines as lines
use Rattle.mh_lint_states.specs.ConflictKinds.{IsKindText}
use Rattle.mh_lint_states.specs.ConflictKinds as kinds

production_once : (g : Grammar) (t : TableData) (p : ℕ) (xs ys : List Line) → AreProductionLines g t p xs → AreProductionLines g t p ys → xs ≡ ys
production_once g t p xs ys (lines.AreProductionLines.reduced is) (lines.AreProductionLines.reduced so) = refl
production_once g t p xs ys (lines.AreProductionLines.reduced is) (lines.AreProductionLines.never_reduced never) = absurd (never is)
production_once g t p xs ys (lines.AreProductionLines.never_reduced never) (lines.AreProductionLines.reduced is) = absurd (never is)
production_once g t p xs ys (lines.AreProductionLines.never_reduced never) (lines.AreProductionLines.never_reduced so) = refl

kind_once : (g : Grammar) (a : Automaton) (s : ℕ) (look : Look) (x y : Text) → IsKindText g a s look x → IsKindText g a s look y → x ≡ y
kind_once g a s look x y (kinds.IsKindText.shift_reduce shift one) (kinds.IsKindText.shift_reduce too other) = refl
kind_once g a s look x y (kinds.IsKindText.shift_reduce shift one) (kinds.IsKindText.shift_reduce_reduce too two) = absurd (one two)
kind_once g a s look x y (kinds.IsKindText.shift_reduce shift one) (kinds.IsKindText.reduce_reduce never) = absurd (never shift)
kind_once g a s look x y (kinds.IsKindText.shift_reduce_reduce shift two) (kinds.IsKindText.shift_reduce too one) = absurd (one two)
kind_once g a s look x y (kinds.IsKindText.shift_reduce_reduce shift two) (kinds.IsKindText.shift_reduce_reduce too other) = refl
kind_once g a s look x y (kinds.IsKindText.shift_reduce_reduce shift two) (kinds.IsKindText.reduce_reduce never) = absurd (never shift)
kind_once g a s look x y (kinds.IsKindText.reduce_reduce never) (kinds.IsKindText.shift_reduce shift one) = absurd (never shift)
kind_once g a s look x y (kinds.IsKindText.reduce_reduce never) (kinds.IsKindText.shift_reduce_reduce shift two) = absurd (never shift)
kind_once g a s look x y (kinds.IsKindText.reduce_reduce never) (kinds.IsKindText.reduce_reduce so) = refl

conflict_once : (g : Grammar) (a : Automaton) (c : Conflict) (xs ys : List Line) → AreConflictLines g a c xs → AreConflictLines g a c ys → xs ≡ ys
conflict_once g a c xs ys (lines.AreConflictLines.solved is) (lines.AreConflictLines.solved so) = refl
conflict_once g a c xs ys (lines.AreConflictLines.solved is) (lines.AreConflictLines.unsolved kind so text) = absurd cc
conflict_once g a c xs ys (lines.AreConflictLines.solved is) (lines.AreConflictLines.stream so) = absurd cc
conflict_once g a c xs ys (lines.AreConflictLines.unsolved kind is text) (lines.AreConflictLines.solved so) = absurd cc
conflict_once g a c xs ys (lines.AreConflictLines.unsolved kind is text) (lines.AreConflictLines.unsolved other so too) = (let same = kind_once g a c.state c.look kind other text too in rw same refl)
conflict_once g a c xs ys (lines.AreConflictLines.unsolved kind is text) (lines.AreConflictLines.stream so) = absurd cc
conflict_once g a c xs ys (lines.AreConflictLines.stream is) (lines.AreConflictLines.solved so) = absurd cc
conflict_once g a c xs ys (lines.AreConflictLines.stream is) (lines.AreConflictLines.unsolved kind so text) = absurd cc
conflict_once g a c xs ys (lines.AreConflictLines.stream is) (lines.AreConflictLines.stream so) = refl

pub automaton_lines_once : (g : Grammar) (a : Automaton) (t : TableData) (conflicts : List Conflict) (xs ys : List Line) → AreAutomatonLines g a t conflicts xs → AreAutomatonLines g a t conflicts ys → xs ≡ ys
automaton_lines_once g a t conflicts xs ys p q =
    let productions : p.unreduced ≡ q.unreduced = in_order_once (AreProductionLines g t) (production_once g t) (ordinary g) p.unreduced q.unreduced p.are_unreduced q.are_unreduced in
    let others : p.of_conflicts ≡ q.of_conflicts = in_order_once (AreConflictLines g a) (conflict_once g a) conflicts p.of_conflicts q.of_conflicts p.are_conflicts q.are_conflicts in
    p.is ∙ ap (λ l. l ++ p.of_conflicts) productions ∙ ap (λ l. q.unreduced ++ l) others ∙ sym q.is
