-- Proves that feeding a branch has an end, if its start and tokens are those of a table that passed the halting test.
use Rattle.std.proofs.Common.{◌≡◌, ◌⊎◌, ℕ, zero, suc, ◌+◌, ◌-◌, ◌<◌, ◌≤◌, Bool, true, false, List, [], ◌∷◌, length, Option, Some, None, refl, sym, ap, subst, ◌∙◌, arith, inl, inr}
use Rattle.std.specs.List.{All}
use Rattle.std.proofs.lemmas.List.{length-drop, length_push}
use Rattle.std.proofs.lemmas.List.Elements.{All-head, All-push, All-tail, recursion_from_All}
use Rattle.mh_tables_core.specs.Halting.{HaltingFacts}
use Rattle.mh_tables_core.specs.Run.{Config, RunMove, Accepts, Asks, Refuses, Shifts, Reduces, top_of, step, step_by, goes_to, next_of, reduce, initial, after, Ending, Ends, VerdictOf}
use Rattle.mh_tables_core.specs.Table.{TableData}
use Rattle.mh_tables_core.proofs.Reductions.{after-add}
use Rattle.mh_tables_core.proofs.RunEnds.{after_ended, has_verdict, step_moves}
use Rattle.mh_engine.specs.Branches.{Branch, AreSteps, HasPosition, position_of, run_position, with_token, with_step}
use Rattle.mh_engine.specs.Feeding.{feeding_of, moved_in, phase_in, after_moves, HasStopped}
use Rattle.mh_engine.specs.Phases.{phase_of, phase_by, phase_if_refused, next_move, CanResume}
use Rattle.mh_engine.specs.Positions.{Position}
use Rattle.mh_engine.specs.Steps.{resumed, config_of}
use Rattle.mh_engine.specs.declared.phase.Phase.{Phase}
use Rattle.mh_engine.specs.declared.phase.Phase.TheVariants as phases
use Rattle.mh_engine.proofs.BranchPosition.{HasPosition-token, HasPosition-step}
use Rattle.mh_engine.proofs.IsFed.{moves_add}
use Rattle.mh_engine.proofs.OneMoreStep.{resumed_table}
use Rattle.mh_engine.proofs.Resumed.{resumed_by, by_move}
use Rattle.mh_engine.proofs.Walks.{MovesOn, can_move, move_step}

-- The start and the tokens of the branch are those of the table, and each resume is a step of its run.
pub record IsBranchOf (t : TableData) (b : Branch) : Type 0 where
  pub start : b.start < length t.grammar.starts
  pub tokens : All (λ z. z < t.grammar.tokens) b.offered
  pub steps : AreSteps t b

has_position : (t : TableData) (b : Branch) → IsBranchOf t b → HasPosition b (position_of t b)
has_position t b of = record { made = of.steps; position = refl }

pub branch_offered : (t : TableData) (b : Branch) (z : ℕ) → z < t.grammar.tokens → IsBranchOf t b → IsBranchOf t (with_token b z)
branch_offered t b z known of = record {
  start = of.start;
  tokens = All-push (λ y. y < t.grammar.tokens) b.offered z of.tokens known;
  steps = (HasPosition-token b (position_of t b) z (has_position t b of)).made;
}

stepped : (t : TableData) (b : Branch) → IsBranchOf t b → CanResume (phase_of (position_of t b)) → HasPosition (with_step b) (resumed (position_of t b))
stepped t b of can = HasPosition-step b (position_of t b) (has_position t b of) can

pub branch_resumed : (t : TableData) (b : Branch) → CanResume (phase_of (position_of t b)) → IsBranchOf t b → IsBranchOf t (with_step b)
branch_resumed t b can of = record { start = of.start; tokens = of.tokens; steps = subst (λ (u : TableData). AreSteps u (with_step b)) (resumed_table (position_of t b)) (stepped t b of can).made }

-- ---- The tokens to come.

offer_left : (t : TableData) (b : Branch) (z : ℕ) → IsBranchOf t b → length (position_of t (with_token b z)).left ≡ length (position_of t b).left + 1
offer_left t b z of = ap (λ (p : Position). length p.left) (sym (HasPosition-token b (position_of t b) z (has_position t b of)).position) ∙ length_push (position_of t b).left z

goes_left : (c : Config) (o : Option (List ℕ)) → (next_of c (goes_to c o)).left ≡ c.left
goes_left c None = refl
goes_left c (Some stack) = refl

falls_by : (c : Position) (m : RunMove) → length (resumed_by c m).left ≤ length c.left
falls_by c Accepts = omega arith
falls_by c Asks = omega arith
falls_by c Refuses = omega arith
falls_by c (Shifts j) = omega (arith, length-drop 1 c.left)
falls_by c (Reduces p) = let same : length (resumed_by c (Reduces p)).left ≡ length c.left = ap length (goes_left (config_of c) (reduce c.table p (config_of c).stack)) in omega arith

step_left : (t : TableData) (b : Branch) → IsBranchOf t b → CanResume (phase_of (position_of t b)) → length (position_of t (with_step b)).left ≤ length (position_of t b).left
step_left t b of can =
    let c : Position = position_of t b in
    let next : position_of t (with_step b) ≡ resumed c = ap (λ (u : TableData). position_of u (with_step b)) (sym (resumed_table c)) ∙ sym (stepped t b of can).position in
    let same : length (position_of t (with_step b)).left ≡ length (resumed_by c (next_move c)).left = ap (λ (p : Position). length p.left) (next ∙ by_move c (next_move c) refl) in
    let falls = falls_by c (next_move c) in
    omega arith

-- ---- No step follows the end of a run.

never_goes : (c : Config) (o : Option (List ℕ)) (how : Ending) → goes_to c o ≡ Ends how → ⊥
never_goes c None how e = cc
never_goes c (Some stack) how e = cc

stops_by : (t : TableData) (c : Config) (how : Ending) (m : RunMove) (s : ℕ) (left : List ℕ) → step_by t c m ≡ Ends how → MovesOn (phase_by m s left) → ⊥
stops_by t c how Accepts s left e h = h
stops_by t c how Asks s left e h = h
stops_by t c how Refuses s left e h = h
stops_by t c how (Shifts j) s left e h = cc
stops_by t c how (Reduces p) s left e h = never_goes c (reduce t p c.stack) how e

stops_where : (refused : Bool) (c : Position) (how : Ending) (run : Config) → step_by c.table run (next_move c) ≡ Ends how → MovesOn (phase_if_refused refused c) → ⊥
stops_where true c how run e h = h
stops_where false c how run e h = stops_by c.table run how (next_move c) (top_of c.pairs.states) c.left e h

ended_stops : (t : TableData) (start : ℕ) (w : List ℕ) (n : ℕ) (how : Ending) → step t (after t n (initial start w)) ≡ Ends how → MovesOn (phase_of (run_position t start w n)) → ⊥
unfolding phase_of
ended_stops t start w n how e h =
    let run : Config = after t n (initial start w) in
    let c : Position = run_position t start w n in
    stops_where c.refused c how run (sym (step_moves t run (next_move c) refl) ∙ e) h

ended_later : (t : TableData) (c : Config) (n m : ℕ) (how : Ending) → n ≤ m → step t (after t n c) ≡ Ends how → step t (after t m c) ≡ Ends how
ended_later t c n m how le e =
    let whole : m ≡ n + (m - n) = omega arith in
    ap (λ (k : ℕ). step t (after t k c)) whole ∙ ap (step t) (after-add t n (m - n) c ∙ after_ended t (m - n) (after t n c) how e) ∙ e

-- ---- Steps up to the next offer or to the end.

moves_or_rests : (p : Phase) → MovesOn p ⊎ (MovesOn p → ⊥)
moves_or_rests (phases.InputNeeded s) = inr (λ h. h)
moves_or_rests (phases.Shifting s z) = inl tt
moves_or_rests (phases.AboutToReduce s p) = inl tt
moves_or_rests (phases.HandlingError s) = inr (λ h. h)
moves_or_rests phases.Accepted = inr (λ h. h)
moves_or_rests phases.Rejected = inr (λ h. h)

-- Moves lead from the branch b to the branch `next`, which has the same tokens and makes no step.
record Rests (t : TableData) (b : Branch) (waiting : List ℕ) : Type 0 where
  moves : ℕ
  next : Branch
  reaches : after_moves t moves (feeding_of b waiting) ≡ feeding_of next waiting
  of : IsBranchOf t next
  same : next.offered ≡ b.offered
  left : length (position_of t next).left ≤ length (position_of t b).left
  none_moves : MovesOn (phase_of (position_of t next)) → ⊥

module _ (t : TableData) (waiting : List ℕ) where
  here : (b : Branch) → IsBranchOf t b → (MovesOn (phase_of (position_of t b)) → ⊥) → Rests t b waiting
  here b of none = record { moves = 0; next = b; reaches = refl; of = of; same = refl; left = omega arith; none_moves = none }

  after_step : (b : Branch) → IsBranchOf t b → MovesOn (phase_of (position_of t b)) → Rests t (with_step b) waiting → Rests t b waiting
  after_step b of m r =
      let falls = step_left t b of (can_move (phase_of (position_of t b)) m) in
      let later = r.left in
      record {
        moves = suc r.moves;
        next = r.next;
        reaches = ap (after_moves t r.moves) (move_step (phase_of (position_of t b)) b waiting m) ∙ r.reaches;
        of = r.of;
        same = r.same;
        left = omega arith;
        none_moves = r.none_moves;
      }

  -- The run of the branch ends after n steps.
  comes_to_rest : (k n : ℕ) (how : Ending) (b : Branch) → IsBranchOf t b → step t (after t n (initial b.start b.offered)) ≡ Ends how → n ≤ b.resumes + k → Rests t b waiting
  comes_to_rest zero n how b of e le = here b of (λ m. ended_stops t b.start b.offered b.resumes how (ended_later t (initial b.start b.offered) n b.resumes how (omega arith) e) m)
  comes_to_rest (suc k) n how b of e le = elim (moves_or_rests (phase_of (position_of t b))) [
    | inl m ↦ after_step b of m (comes_to_rest k n how (with_step b) (branch_resumed t b (can_move (phase_of (position_of t b)) m) of) e (omega arith))
    | inr none ↦ here b of none
  ]

-- ---- All tokens.

-- Feeding stops, and each token offered is shifted or is still to come.
pub record Stops (t : TableData) (b : Branch) (waiting : List ℕ) : Type 0 where
  pub moves : ℕ
  pub next : Branch
  pub unoffered : List ℕ
  pub reaches : after_moves t moves (feeding_of b waiting) ≡ feeding_of next unoffered
  pub stops : HasStopped (phase_of (position_of t next)) unoffered
  pub of : IsBranchOf t next
  pub count : length b.offered + length (position_of t next).left ≤ length (position_of t b).left + length next.offered

module _ (t : TableData) (h : HaltingFacts t) where
  rests_by : (b : Branch) (waiting : List ℕ) → IsBranchOf t b → (how : Ending) → VerdictOf t b.start b.offered how → Rests t b waiting
  rests_by b waiting of how (n, ended) = comes_to_rest t waiting n n how b of ended (omega arith)

  at_rest : (b : Branch) (waiting : List ℕ) → IsBranchOf t b → Rests t b waiting
  at_rest b waiting of =
      let v = has_verdict t h b.start b.offered of.start (recursion_from_All (λ z. z < t.grammar.tokens) b.offered of.tokens) in
      rests_by b waiting of v.0 v.1

  stops_here : (b : Branch) (waiting : List ℕ) (r : Rests t b waiting) → HasStopped (phase_of (position_of t r.next)) waiting → Stops t b waiting
  stops_here b waiting r stop =
      let left = r.left in
      record { moves = r.moves; next = r.next; unoffered = waiting; reaches = r.reaches; stops = stop; of = r.of; count = let l : length r.next.offered ≡ length b.offered = ap length r.same in omega arith }

  module _ (b : Branch) (z : ℕ) (waiting : List ℕ) (known : z < t.grammar.tokens) (r : Rests t b (z ∷ waiting)) (rest : (next : Branch) → IsBranchOf t next → Stops t next waiting) where
    offers : (s : ℕ) → phase_of (position_of t r.next) ≡ phases.InputNeeded s → Stops t b (z ∷ waiting)
    offers s asks =
        let fed : Branch = with_token r.next z in
        let more = rest fed (branch_offered t r.next z known r.of) in
        let one : moved_in (phase_in t (feeding_of r.next (z ∷ waiting))) (feeding_of r.next (z ∷ waiting)) ≡ feeding_of fed waiting = ap (λ (p : Phase). moved_in p (feeding_of r.next (z ∷ waiting))) asks in
        record {
          moves = r.moves + suc more.moves;
          next = more.next;
          unoffered = more.unoffered;
          reaches = moves_add t r.moves (suc more.moves) (feeding_of b (z ∷ waiting)) ∙ ap (after_moves t (suc more.moves)) r.reaches ∙ ap (after_moves t more.moves) one ∙ more.reaches;
          stops = more.stops;
          of = more.of;
          count =
              let l : length r.next.offered ≡ length b.offered = ap length r.same in
              let left = r.left in
              let all = more.count in
              omega (arith, l, left, all, offer_left t r.next z r.of, length_push r.next.offered z);
        }

    goes : (p : Phase) → phase_of (position_of t r.next) ≡ p → Stops t b (z ∷ waiting)
    goes (phases.InputNeeded s) e = offers s e
    goes (phases.Shifting s y) e = absurd (r.none_moves (subst MovesOn (sym e) tt))
    goes (phases.AboutToReduce s p) e = absurd (r.none_moves (subst MovesOn (sym e) tt))
    goes (phases.HandlingError s) e = stops_here b (z ∷ waiting) r (subst (λ (p : Phase). HasStopped p (z ∷ waiting)) (sym e) tt)
    goes phases.Accepted e = stops_here b (z ∷ waiting) r (subst (λ (p : Phase). HasStopped p (z ∷ waiting)) (sym e) tt)
    goes phases.Rejected e = stops_here b (z ∷ waiting) r (subst (λ (p : Phase). HasStopped p (z ∷ waiting)) (sym e) tt)

  none_left : (p : Phase) → (MovesOn p → ⊥) → HasStopped p []
  none_left (phases.InputNeeded s) none = refl
  none_left (phases.Shifting s z) none = none tt
  none_left (phases.AboutToReduce s p) none = none tt
  none_left (phases.HandlingError s) none = tt
  none_left phases.Accepted none = tt
  none_left phases.Rejected none = tt

  pub feeding_stops : (waiting : List ℕ) (b : Branch) → IsBranchOf t b → All (λ z. z < t.grammar.tokens) waiting → Stops t b waiting
  feeding_stops [] b of known = let r = at_rest b [] of in stops_here b [] r (none_left (phase_of (position_of t r.next)) r.none_moves)
  feeding_stops (z ∷ waiting) b of known =
      let r = at_rest b (z ∷ waiting) of in
      goes b z waiting (All-head (λ y. y < t.grammar.tokens) z waiting known) r (λ next known_next. feeding_stops waiting next known_next (All-tail (λ y. y < t.grammar.tokens) z waiting known)) (phase_of (position_of t r.next)) refl
