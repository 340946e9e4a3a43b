-- Proves that the steps of a position from the initial one on are the steps of the run.
use Rattle.std.proofs.Common.{◌≡◌, ℕ, zero, suc, List, [], ◌∷◌, ◌++◌, drop, Some, None, Option, Bool, refl, ap, sym, subst, ◌∙◌}
use Rattle.mh_grammar.specs.Plain.{rhs_of}
use Rattle.mh_tables_core.specs.Table.{TableData}
use Rattle.mh_tables_core.specs.Run.{Config, RunMove, Accepts, Asks, Refuses, Shifts, Reduces, run_move_of, top_of, step, step_by, goes_to, next_of, reduce, initial, after}
use Rattle.mh_tables_core.specs.RunTrees.{trees_after_move, trees_after}
use Rattle.mh_tables_core.proofs.RunEnds.{step_moves}
use Rattle.mh_grammar.specs.Trees.{SyntaxTree}
use Rattle.mh_engine.specs.Positions.{Position}
use Rattle.mh_engine.specs.Phases.{next_move}
use Rattle.mh_engine.specs.Steps.{initial_position, resumed, config_of, is_refusal}
use Rattle.mh_engine.specs.code.ManySteps.{after_steps, CanMakeSteps}
use Rattle.mh_engine.specs.Branches.{was_refusal, run_position}
use Rattle.mh_engine.proofs.Resumed.{resumed_by, by_move}
use Rattle.mh_engine.proofs.OneMoreStep.{resumed_table, table_after, after_steps-suc}

-- A position has the states, trees and tokens to come of a run's configuration.
pub record HasConfig (c : Position) (run : Config) (trees : List SyntaxTree) : Type 0 where
  pub states : c.pairs.states ≡ run.stack
  pub same_trees : c.pairs.trees ≡ trees
  pub same_left : c.left ≡ run.left

-- The configuration of a position, with a given count of tokens shifted.
abbrev counted : Position → ℕ → Config
counted c read = record { stack = c.pairs.states; read = read; left = c.left }

goes_same : (c : Position) (read : ℕ) (r : Bool) (o : Option (List ℕ)) (trees : List SyntaxTree)
    → HasConfig (let next = next_of (config_of c) (goes_to (config_of c) o) in record { table = c.table; pairs = record { states = next.stack; trees = trees }; left = next.left; refused = r }) (next_of (counted c read) (goes_to (counted c read) o)) trees
goes_same c read r None trees = record { states = refl; same_trees = refl; same_left = refl }
goes_same c read r (Some stack) trees = record { states = refl; same_trees = refl; same_left = refl }

by_same : (c : Position) (read : ℕ) (m : RunMove) → HasConfig (resumed_by c m) (next_of (counted c read) (step_by c.table (counted c read) m)) (trees_after_move c.table m c.left c.pairs.trees)
by_same c read Accepts = record { states = refl; same_trees = refl; same_left = refl }
by_same c read Asks = record { states = refl; same_trees = refl; same_left = refl }
by_same c read Refuses = record { states = refl; same_trees = refl; same_left = refl }
by_same c read (Shifts j) = record { states = refl; same_trees = refl; same_left = refl }
by_same c read (Reduces p) = goes_same c read _ (reduce c.table p c.pairs.states) (trees_after_move c.table (Reduces p) c.left c.pairs.trees)

step_same : (c : Position) (read : ℕ) → HasConfig (resumed c) (next_of (counted c read) (step c.table (counted c read))) (trees_after_move c.table (next_move c) c.left c.pairs.trees)
step_same c read =
    let m : RunMove = next_move c in
    rw (step_moves c.table (counted c read) m refl) (subst (λ (p : Position). HasConfig p (next_of (counted c read) (step_by c.table (counted c read) m)) (trees_after_move c.table m c.left c.pairs.trees)) (sym (by_move c m refl)) (by_same c read m))

same_config : (c : Position) (run : Config) (trees : List SyntaxTree) → HasConfig c run trees → (counted c run.read ≡ run) × (c.pairs.trees ≡ trees)
same_config c run trees h = (ap (λ (s : List ℕ). record { stack = s; read = run.read; left = c.left }) h.states ∙ ap (λ (l : List ℕ). record { stack = run.stack; read = run.read; left = l }) h.same_left, h.same_trees)

step_in : (t : TableData) (c : Position) (run : Config) (trees : List SyntaxTree) → c.table ≡ t → HasConfig c run trees → HasConfig (resumed c) (next_of run (step t run)) (trees_after_move t (run_move_of t (top_of run.stack) run.left) run.left trees)
step_in t c run trees e h =
    let s = step_same c run.read in
    let both = same_config c run trees h in
    subst (λ (u : TableData). HasConfig (resumed c) (next_of run (step u run)) (trees_after_move u (run_move_of u (top_of run.stack) run.left) run.left trees)) e
    (subst (λ (ts : List SyntaxTree). HasConfig (resumed c) (next_of run (step c.table run)) (trees_after_move c.table (run_move_of c.table (top_of run.stack) run.left) run.left ts)) both.1
    (subst (λ (k : Config). HasConfig (resumed c) (next_of k (step c.table k)) (trees_after_move c.table (run_move_of c.table (top_of k.stack) k.left) k.left c.pairs.trees)) both.0 s))

steps_in : (t : TableData) (n : ℕ) (c : Position) (run : Config) (trees : List SyntaxTree) → c.table ≡ t → HasConfig c run trees → HasConfig (after_steps n c) (after t n run) (trees_after t n run trees)
steps_in t zero c run trees e h = h
steps_in t (suc n) c run trees e h = steps_in t n (resumed c) (next_of run (step t run)) (trees_after_move t (run_move_of t (top_of run.stack) run.left) run.left trees) (resumed_table c ∙ e) (step_in t c run trees e h)

pub HasConfig-run : (t : TableData) (start : ℕ) (w : List ℕ) (n : ℕ) → HasConfig (after_steps n (initial_position t start w)) (after t n (initial start w)) (trees_after t n (initial start w) [])
HasConfig-run t start w n = steps_in t n (initial_position t start w) (initial start w) [] refl (record { states = refl; same_trees = refl; same_left = refl })

same_refused : (t : TableData) (start : ℕ) (w : List ℕ) (n : ℕ) → (after_steps n (initial_position t start w)).refused ≡ was_refusal t n (initial start w)
same_refused t start w zero = refl
same_refused t start w (suc n) =
    let c : Position = after_steps n (initial_position t start w) in
    let run : Config = after t n (initial start w) in
    let s = HasConfig-run t start w n in
    let table : c.table ≡ t = table_after n (initial_position t start w) in
    let move : next_move c ≡ run_move_of t (top_of run.stack) run.left =
    ap (λ (u : TableData). run_move_of u (top_of c.pairs.states) c.left) table ∙ ap (λ (l : List ℕ). run_move_of t (top_of l) c.left) s.states ∙ ap (run_move_of t (top_of run.stack)) s.same_left in
    ap (λ (p : Position). p.refused) (after_steps-suc n (initial_position t start w) ∙ by_move c (next_move c) refl) ∙ ap is_refusal move

same_position : (c : Position) (t : TableData) (run : Config) (trees : List SyntaxTree) (r : Bool) → c.table ≡ t → HasConfig c run trees → c.refused ≡ r → c ≡ record { table = t; pairs = record { states = run.stack; trees = trees }; left = run.left; refused = r }
same_position c t run trees r e s f =
    ap (λ (u : TableData). record { table = u; pairs = c.pairs; left = c.left; refused = c.refused }) e
    ∙ ap (λ (l : List ℕ). record { table = t; pairs = record { states = l; trees = c.pairs.trees }; left = c.left; refused = c.refused }) s.states
    ∙ ap (λ (ts : List SyntaxTree). record { table = t; pairs = record { states = run.stack; trees = ts }; left = c.left; refused = c.refused }) s.same_trees
    ∙ ap (λ (l : List ℕ). record { table = t; pairs = record { states = run.stack; trees = trees }; left = l; refused = c.refused }) s.same_left
    ∙ ap (λ (b : Bool). record { table = t; pairs = record { states = run.stack; trees = trees }; left = run.left; refused = b }) f

-- The position after n steps from the initial one is the run's position after n steps.
pub after_steps-run : (t : TableData) (start : ℕ) (w : List ℕ) (n : ℕ) → after_steps n (initial_position t start w) ≡ run_position t start w n
after_steps-run t start w n =
    same_position (after_steps n (initial_position t start w)) t (after t n (initial start w)) (trees_after t n (initial start w) []) (was_refusal t n (initial start w)) (table_after n (initial_position t start w)) (HasConfig-run t start w n) (same_refused t start w n)
