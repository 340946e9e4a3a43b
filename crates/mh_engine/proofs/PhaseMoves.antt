-- Lemmas on how the phase of a position and its next move determine each other.
use Rattle.std.proofs.Common.{◌≡◌, ℕ, suc, ◌+◌, inl, inr, ◌⊎◌, List, [], ◌∷◌, ◌++◌, length, Some, None, Option, Bool, true, false, refl, ap, sym, subst, arith, ◌∙◌, length-append}
use Rattle.mh_tables_core.specs.Facts.{Facts}
use Rattle.mh_tables_core.specs.Run.{RunMove, Accepts, Asks, Refuses, Shifts, Reduces, run_move_of, top_of}
use Rattle.mh_tables_core.specs.RunTrees.{TreesMatchStack}
use Rattle.mh_tables_core.specs.Halting.{look_list}
use Rattle.mh_tables_core.proofs.TreesMatchStack.{accepts_one}
use Rattle.mh_tables_core.proofs.IsTreeOfRead.{accepts_by_default}
use Rattle.mh_tables_core.proofs.Reductions.{no_shift_at_end}
use Rattle.mh_grammar.specs.Trees.{SyntaxTree}
use Rattle.mh_engine.specs.Positions.{Position}
use Rattle.mh_engine.specs.Phases.{next_move, phase_of, phase_by, phase_if_refused}
use Rattle.mh_engine.specs.declared.phase.Phase.{Phase}
use Rattle.mh_engine.specs.declared.phase.Phase.TheVariants as phases

-- No token is shifted if no token is offered.
pub no_shift_waiting : (c : Position) (look : Option ℕ) (j : ℕ) → look ≡ None → look_list look ≡ c.left → Shifts j ≡ next_move c → ⊥
no_shift_waiting c look j e l m =
    let none : c.left ≡ [] = sym l ∙ ap look_list e in
    no_shift_at_end c.table (top_of c.pairs.states) j (subst (λ (left : List ℕ). run_move_of c.table (top_of c.pairs.states) left ≡ Shifts j) none (sym m))

accepted_by : (m : RunMove) (s : ℕ) (left : List ℕ) → phase_by m s left ≡ phases.Accepted → m ≡ Accepts
accepted_by Accepts s left e = refl
accepted_by Asks s left e = cc
accepted_by Refuses s left e = cc
accepted_by (Shifts j) s left e = cc
accepted_by (Reduces p) s left e = cc

accepted_where : (b : Bool) (c : Position) → phase_if_refused b c ≡ phases.Accepted → next_move c ≡ Accepts
accepted_where true c e = cc
accepted_where false c e = accepted_by (next_move c) (top_of c.pairs.states) c.left e

pub accepted_moves : (c : Position) → phase_of c ≡ phases.Accepted → next_move c ≡ Accepts
unfolding phase_of
accepted_moves c e = accepted_where c.refused c e

-- There is exactly one tree on the stack if the run accepts.
pub accepted_one : (c : Position) → Facts c.table → TreesMatchStack c.table c.pairs.states c.pairs.trees → phase_of c ≡ phases.Accepted → length c.pairs.trees ≡ 1
accepted_one c f g e =
    (accepts_one c.table f c.pairs.states c.pairs.trees g (accepts_by_default c.table (top_of c.pairs.states) c.left (accepted_moves c e))).one

one_last : (trees below : List SyntaxTree) (tree : SyntaxTree) → length trees ≡ 1 → trees ≡ below ++ tree ∷ [] → trees ≡ tree ∷ []
one_last trees [] tree l e = e
one_last trees (x ∷ below) tree l e = let n : length trees ≡ length ((x ∷ below) ++ tree ∷ []) = ap length e in absurd (omega (arith, length-append below (tree ∷ [])))

pub accepted_tree : (c : Position) → Facts c.table → TreesMatchStack c.table c.pairs.states c.pairs.trees → phase_of c ≡ phases.Accepted → (below : List SyntaxTree) (tree : SyntaxTree) → c.pairs.trees ≡ below ++ tree ∷ [] → c.pairs.trees ≡ tree ∷ []
accepted_tree c f g e below tree is = one_last c.pairs.trees below tree (accepted_one c f g e) is

pub accepted_some : (c : Position) → Facts c.table → TreesMatchStack c.table c.pairs.states c.pairs.trees → phase_of c ≡ phases.Accepted → c.pairs.trees ≡ [] → ⊥
accepted_some c f g e none = let one = accepted_one c f g e in let n : length c.pairs.trees ≡ 0 = ap length none in omega arith
