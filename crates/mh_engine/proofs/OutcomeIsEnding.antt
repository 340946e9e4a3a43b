-- Proves that the outcome that the checkpoints reach is how the run of the sentence ends.
use Rattle.std.proofs.Common.{◌≡◌, ℕ, zero, suc, ◌+◌, ◌-◌, ◌<◌, ◌≤◌, List, [], ◌∷◌, ◌++◌, length, Bool, true, false, refl, ap, sym, subst, arith, ◌∙◌, inl, inr, length-append, get_or}
use Rattle.std.proofs.lemmas.Bool.{cases_lt}
use Rattle.mh_tables_core.specs.Table.{TableData}
use Rattle.mh_tables_core.specs.Facts.{Facts}
use Rattle.mh_tables_core.specs.Run.{Config, RunMove, Accepts as Accepting, Asks, Refuses, Shifts, Reduces, run_move_of, top_of, initial, after, next_of, step, step_by, Ends, Ending, Accepted, Overshot, Rejected}
use Rattle.mh_tables_core.specs.RunTrees.{trees_after_move, trees_after, TreesMatchRun, yields}
use Rattle.mh_tables_core.proofs.RunEnds.{step_moves}
use Rattle.mh_tables_core.proofs.TreesMatchStack.{TreesMatchRun-start}
use Rattle.mh_grammar.specs.Trees.{SyntaxTree, Leaf}
use Rattle.mh_engine.specs.Positions.{Pairs, Position}
use Rattle.mh_engine.specs.Phases.{next_move, phase_of, phase_by, phase_if_refused}
use Rattle.mh_engine.specs.Steps.{initial_position}
use Rattle.mh_engine.specs.code.ManySteps.{after_steps}
use Rattle.mh_tables_core.specs.TooDeep.{too_deep}
use Rattle.mh_engine.specs.code.Settling.{StepsLeadTo, SettlesTooDeep}
use Rattle.mh_engine.specs.Outcomes.{tree_ending_for}
use Rattle.mh_engine.specs.code.SentenceOutcomes.{ReachesPhase, AcceptsWithTree, IsReachedOutcome}
use Rattle.mh_tables_core.specs.TreeRuns.{IsTreeOfRead, IsTooDeep, IsTreeEnding}
use Rattle.mh_tables_core.proofs.IsTreeOfRead.{accepted_derives}
use Rattle.mh_engine.specs.declared.phase.Phase.{Phase}
use Rattle.mh_engine.specs.declared.phase.Phase.TheVariants as phases
use Rattle.mh_engine.specs.declared.sentence.TreeOutcome.{TreeOutcome}
use Rattle.mh_engine.specs.declared.sentence.TreeOutcome.TheVariants as outcomes
use Rattle.mh_engine.proofs.PhaseMoves.{accepted_moves}
use Rattle.mh_engine.proofs.OneMoreStep.{table_after}
use Rattle.mh_engine.proofs.StepsOfRun.{HasConfig, HasConfig-run}
use Rattle.mh_engine.proofs.SentenceTokens.{error_phase_refuses}

-- The trees after n + k steps are the trees after k more steps from where n steps lead.
trees_add : (t : TableData) (n k : ℕ) (c : Config) (ts : List SyntaxTree) → trees_after t (n + k) c ts ≡ trees_after t k (after t n c) (trees_after t n c ts)
trees_add t zero k c ts = let e : zero + k ≡ k = omega arith in rw e refl
trees_add t (suc n) k c ts = let e : suc n + k ≡ suc (n + k) = omega arith in rw e (trees_add t n k (next_of c (step t c)) (trees_after_move t (run_move_of t (top_of c.stack) c.left) c.left ts))

-- A move that ends the run: no step changes the stack or the trees after it.
pub data IsEnd : RunMove → Type 0 where
  accepts : IsEnd Accepting
  asks : IsEnd Asks
  refuses : IsEnd Refuses

grow_stays : (t : TableData) (m : RunMove) (left : List ℕ) (ts : List SyntaxTree) → IsEnd m → trees_after_move t m left ts ≡ ts
grow_stays t Accepting left ts accepts = refl
grow_stays t Asks left ts asks = refl
grow_stays t Refuses left ts refuses = refl
grow_stays t (Shifts j) left ts h = elim h [ ]
grow_stays t (Reduces p) left ts h = elim h [ ]

next_stays : (t : TableData) (c : Config) (m : RunMove) → IsEnd m → next_of c (step_by t c m) ≡ c
next_stays t c Accepting accepts = refl
next_stays t c Asks asks = refl
next_stays t c Refuses refuses = refl
next_stays t c (Shifts j) h = elim h [ ]
next_stays t c (Reduces p) h = elim h [ ]

trees_stay : (t : TableData) (k : ℕ) (c : Config) (ts : List SyntaxTree) (m : RunMove) → run_move_of t (top_of c.stack) c.left ≡ m → IsEnd m → trees_after t k c ts ≡ ts
trees_stay t zero c ts m e h = refl
trees_stay t (suc k) c ts m e h =
    let grown : trees_after_move t (run_move_of t (top_of c.stack) c.left) c.left ts ≡ ts = ap (λ (x : RunMove). trees_after_move t x c.left ts) e ∙ grow_stays t m c.left ts h in
    let next : next_of c (step t c) ≡ c = ap (next_of c) (step_moves t c m e) ∙ next_stays t c m h in
    ap (trees_after t k (next_of c (step t c))) grown ∙ ap (λ (x : Config). trees_after t k x ts) next ∙ trees_stay t k c ts m e h

module _ (t : TableData) (f : Facts t) (start : ℕ) (w : List ℕ) (lt : start < length t.grammar.starts) where
  abbrev first : Position
  first = initial_position t start w

  same : (n : ℕ) → HasConfig (after_steps n first) (after t n (initial start w)) (trees_after t n (initial start w) [])
  same n = HasConfig-run t start w n

  pub deep_ends : SettlesTooDeep first → IsTooDeep t start w
  deep_ends d = (d.steps, ap too_deep (sym (same d.steps).same_trees) ∙ d.deep)

  module _ (p : Phase) (read : ℕ) (r : ReachesPhase t start w p read) (m : RunMove) (at : next_move r.position ≡ m) (h : IsEnd m) where
    abbrev run : Config
    run = after t r.steps (initial start w)

    table_is : r.position.table ≡ t
    table_is = ap (λ (x : Position). x.table) (sym r.leads.reaches) ∙ table_after r.steps first

    states_are : r.position.pairs.states ≡ run.stack
    states_are = ap (λ (x : Position). x.pairs.states) (sym r.leads.reaches) ∙ (same r.steps).states

    left_is : r.position.left ≡ run.left
    left_is = ap (λ (x : Position). x.left) (sym r.leads.reaches) ∙ (same r.steps).same_left

    pub trees_are : r.position.pairs.trees ≡ trees_after t r.steps (initial start w) []
    trees_are = ap (λ (x : Position). x.pairs.trees) (sym r.leads.reaches) ∙ (same r.steps).same_trees

    move_is : run_move_of t (top_of run.stack) run.left ≡ m
    move_is = ap (λ (s : List ℕ). run_move_of t (top_of s) run.left) (sym states_are) ∙ ap (λ (l : List ℕ). run_move_of t (top_of r.position.pairs.states) l) (sym left_is) ∙ ap (λ (u : TableData). run_move_of u (top_of r.position.pairs.states) r.position.left) (sym table_is) ∙ at

    -- The move m is the next move at the reached position, so the next step of the run makes m.
    pub step_is_by_move : step t run ≡ step_by t run m
    step_is_by_move = step_moves t run m move_is

    -- No step of this run makes too many pairs or too high a tree.
    pub fits : IsTooDeep t start w → ⊥
    fits (k, e) = elim (cases_lt k (suc r.steps)) [
      | inl low ↦ (let ok = sym (ap too_deep (same k).same_trees) ∙ r.leads.not_too_deep k (omega arith) in let both = sym e ∙ ok in cc)
      | inr high ↦ (
          let split : k ≡ r.steps + (k - r.steps) = omega arith in
          let stay : trees_after t k (initial start w) [] ≡ trees_after t r.steps (initial start w) [] =
          ap (λ (i : ℕ). trees_after t i (initial start w) []) split ∙ trees_add t r.steps (k - r.steps) (initial start w) [] ∙ trees_stay t (k - r.steps) run (trees_after t r.steps (initial start w) []) m move_is h in
          let ok = ap too_deep stay ∙ ap too_deep (sym (same r.steps).same_trees) ∙ r.leads.not_too_deep r.steps (omega arith) in
          let both = sym e ∙ ok in cc)
    ]

    pub read_is : run.read ≡ read
    read_is =
        let s = TreesMatchRun-start t f start r.steps w lt in
        let c = s.count in
        let whole : length (yields (trees_after t r.steps (initial start w) []) ++ run.left) ≡ length w = ap length s.spells in
        let k = r.count in
        let l : length r.position.left ≡ length run.left = ap length left_is in
        omega (arith, length-append (yields (trees_after t r.steps (initial start w) [])) run.left)

    pub top_is : top_of r.position.pairs.states ≡ top_of run.stack
    top_is = ap top_of states_are

asking_by : (m : RunMove) (s : ℕ) (left : List ℕ) (q : ℕ) → phase_by m s left ≡ phases.InputNeeded q → (m ≡ Asks) × (s ≡ q)
asking_by Accepting s left q e = cc
asking_by Asks s left q e = (refl, cc)
asking_by Refuses s left q e = cc
asking_by (Shifts j) s left q e = cc
asking_by (Reduces p) s left q e = cc

asking_where : (b : Bool) (c : Position) (q : ℕ) → phase_if_refused b c ≡ phases.InputNeeded q → (next_move c ≡ Asks) × (top_of c.pairs.states ≡ q)
asking_where true c q e = cc
asking_where false c q e = asking_by (next_move c) (top_of c.pairs.states) c.left q e

asking : (c : Position) (q : ℕ) → phase_of c ≡ phases.InputNeeded q → (next_move c ≡ Asks) × (top_of c.pairs.states ≡ q)
unfolding phase_of
asking c q e = asking_where c.refused c q e

pub run_ending : (t : TableData) (f : Facts t) (start : ℕ) (w : List ℕ) → start < length t.grammar.starts → (o : TreeOutcome) → IsReachedOutcome t start w o → IsTreeEnding t start w (tree_ending_for o)
run_ending t f start w lt (outcomes.Accept read tree) a =
    let r = a.reaches in
    let m = accepted_moves r.position r.phase_is in
    let end = step_is_by_move t f start w lt phases.Accepted read r Accepting m accepts ∙ ap (λ (n : ℕ). Ends (Accepted n)) (read_is t f start w lt phases.Accepted read r Accepting m accepts) in
    let one : trees_after t r.steps (initial start w) [] ≡ tree ∷ [] = sym (trees_are t f start w lt phases.Accepted read r Accepting m accepts) ∙ a.one_tree in (
      subst (IsTreeOfRead t start w read) (ap (λ (ts : List SyntaxTree). get_or ts 0 (Leaf 0)) one) (accepted_derives t f start w read r.steps lt end),
      fits t f start w lt phases.Accepted read r Accepting m accepts,
    )
run_ending t f start w lt (outcomes.Overshoot state) r =
    let m = asking r.position state r.phase_is in (
      (r.steps, step_is_by_move t f start w lt (phases.InputNeeded state) (length w) r Asks m.0 asks ∙ ap (λ (s : ℕ). Ends (Overshot s)) (sym (top_is t f start w lt (phases.InputNeeded state) (length w) r Asks m.0 asks) ∙ m.1)),
      fits t f start w lt (phases.InputNeeded state) (length w) r Asks m.0 asks,
    )
run_ending t f start w lt (outcomes.Reject at state) r =
    let m = error_phase_refuses r.position state r.phase_is in (
      (
        r.steps,
        step_is_by_move t f start w lt (phases.HandlingError state) at r Refuses m.0 refuses ∙ ap (λ (n : ℕ). Ends (Rejected n (top_of (after t r.steps (initial start w)).stack))) (read_is t f start w lt (phases.HandlingError state) at r Refuses m.0 refuses)
            ∙ ap (λ (s : ℕ). Ends (Rejected at s)) (sym (top_is t f start w lt (phases.HandlingError state) at r Refuses m.0 refuses) ∙ m.1),
      ),
      fits t f start w lt (phases.HandlingError state) at r Refuses m.0 refuses,
    )
run_ending t f start w lt outcomes.TooDeep d = deep_ends t f start w lt d
