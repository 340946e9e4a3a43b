-- Proves that `settle` ends and reaches a position whose next move is no reduction.
use Rattle.std.proofs.Common.{◌≡◌, ℕ, zero, suc, ◌+◌, ◌-◌, ◌*◌, ◌<◌, ◌≤◌, List, [], ◌∷◌, ◌++◌, length, take, drop, Some, None, Option, Bool, true, false, refl, ap, sym, subst, arith, ◌∙◌, ◌⊎◌, inl, inr, length-append}
use Rattle.std.proofs.lemmas.Bool.{cases_lt}
use Rattle.std.proofs.lemmas.List.{length-take-le}
use Rattle.mh_grammar.specs.Plain.{rhs_of}
use Rattle.mh_tables_core.specs.Table.{TableData}
use Rattle.mh_tables_core.specs.Facts.{Facts}
use Rattle.mh_tables_core.specs.Halting.{HaltingFacts, IsLook, look_list}
use Rattle.mh_tables_core.specs.Run.{RunMove, Accepts, Asks, Refuses, Shifts, Reduces, run_move_of, top_of, reduce}
use Rattle.mh_tables_core.proofs.IsPath.{finds_states_and_edge, reduce_is}
use Rattle.mh_tables_core.proofs.Reductions.{reduces_from_move, reduced}
use Rattle.mh_tables_core.proofs.TreesMatchStack.{IsRunStack-of_trees}
use Rattle.mh_tables_core.proofs.ReductionsEnd.{Relative, Relative-few, Relative-start, Relative-step}
use Rattle.mh_engine.specs.Positions.{Position}
use Rattle.mh_engine.specs.Phases.{next_move, phase_of, phase_by, phase_if_refused, CanResume}
use Rattle.mh_engine.specs.Steps.{resumed}
use Rattle.mh_engine.specs.code.ManySteps.{after_steps, CanMakeSteps}
use Rattle.mh_tables_core.specs.TooDeep.{too_deep}
use Rattle.mh_engine.specs.code.IsSound.{IsSound}
use Rattle.mh_engine.specs.code.Settling.{CheckpointFacts, StepsLeadTo, SettlesTo, SettlesTooDeep}
use Rattle.mh_engine.specs.declared.phase.Phase.{Phase}
use Rattle.mh_engine.specs.declared.phase.Phase.TheVariants as phases
use Rattle.mh_engine.proofs.Resumed.{by_move}
use Rattle.mh_engine.proofs.OneMoreStep.{after_steps-suc, CanMakeSteps-suc, resumed_table}

-- If the phase is that of a reduction, the next move is this reduction.
reducing_by : (m : RunMove) (s : ℕ) (left : List ℕ) (q p : ℕ) → phase_by m s left ≡ phases.AboutToReduce q p → m ≡ Reduces p
reducing_by Accepts s left q p e = cc
reducing_by Asks s left q p e = cc
reducing_by Refuses s left q p e = cc
reducing_by (Shifts j) s left q p e = cc
reducing_by (Reduces r) s left q p e = cc

reducing_where : (b : Bool) (c : Position) (q p : ℕ) → phase_if_refused b c ≡ phases.AboutToReduce q p → next_move c ≡ Reduces p
reducing_where true c q p e = cc
reducing_where false c q p e = reducing_by (next_move c) (top_of c.pairs.states) c.left q p e

pub reduce_phase_move : (c : Position) (q p : ℕ) → phase_of c ≡ phases.AboutToReduce q p → next_move c ≡ Reduces p
unfolding phase_of
reduce_phase_move c q p e = reducing_where c.refused c q p e

pub can_resume_at_reduction : (c : Position) (q p : ℕ) → phase_of c ≡ phases.AboutToReduce q p → CanResume (phase_of c)
can_resume_at_reduction c q p e = subst CanResume (sym e) tt

-- The facts on the position after a reduction.
record Reduction (c : Position) (p : ℕ) : Type 0 where
  reduced : reduce c.table p c.pairs.states ≡ Some (resumed c).pairs.states
  same_left : (resumed c).left ≡ c.left
  not_refused : (resumed c).refused ≡ false
  shorter : length (resumed c).pairs.states + length (rhs_of c.table.grammar p) ≡ length c.pairs.states + 1

reduction : (c : Position) (p : ℕ) → Facts c.table → IsSound c → next_move c ≡ Reduces p → Reduction c p
reduction c p f s e =
    let run = IsRunStack-of_trees c.table c.pairs.states c.pairs.trees s.trees_match in
    let found = finds_states_and_edge c.table f c.pairs.states run p (reduces_from_move c.table (top_of c.pairs.states) c.left p e) in
    let is = reduce_is c.table p c.pairs.states found in
    let states : (resumed c).pairs.states ≡ take (length c.pairs.states - length (rhs_of c.table.grammar p)) c.pairs.states ++ found.goto.0 ∷ [] = ap (λ (x : Position). x.pairs.states) (by_move c (Reduces p) e) ∙ rw is refl in
    let kept : List ℕ = take (length c.pairs.states - length (rhs_of c.table.grammar p)) c.pairs.states in
    let room = found.states in
    record {
      reduced = is ∙ ap (λ (l : List ℕ). Some l) (sym states);
      same_left = ap (λ (x : Position). x.left) (by_move c (Reduces p) e) ∙ rw is refl;
      not_refused = ap (λ (x : Position). x.refused) (by_move c (Reduces p) e);
      shorter = let l : length (resumed c).pairs.states ≡ length (kept ++ found.goto.0 ∷ []) = ap length states in omega (arith, length-append kept (found.goto.0 ∷ []), length-take-le (length c.pairs.states - length (rhs_of c.table.grammar p)) c.pairs.states (omega arith));
    }

-- The invariant of the loop of `settle`: the stack from index `floor` on is the result of the last `count` reductions,
-- none of which removed the state at that index.
pub record SettleInvariant (first now : Position) (floor count : ℕ) : Type 0 where
  pub steps : ℕ
  pub leads : StepsLeadTo steps first now
  pub left : now.left ≡ first.left
  pub not_refused : first.refused ≡ false → now.refused ≡ false
  pub kept : CheckpointFacts now
  pub relative : Relative now.table kept.look now.pairs.states floor count

pub SettleInvariant-few : (first now : Position) (floor count : ℕ) → SettleInvariant first now floor count → count ≤ 10000
SettleInvariant-few first now floor count p = Relative-few now.table p.kept.halting.halts p.kept.look p.kept.known now.pairs.states floor count p.relative

begins_at : (c : Position) (k : CheckpointFacts c) (floor : ℕ) → floor ≡ length c.pairs.trees - 1 → Relative c.table k.look c.pairs.states floor 0
begins_at c k floor e =
    let l = k.sound.trees_match.len in
    subst (λ (n : ℕ). Relative c.table k.look c.pairs.states n 0) (omega arith) (Relative-start c.table k.look c.pairs.states (IsRunStack-of_trees c.table c.pairs.states c.pairs.trees k.sound.trees_match))

pub SettleInvariant-start : (first : Position) (floor : ℕ) → CheckpointFacts first → floor ≡ length first.pairs.trees - 1 → SettleInvariant first first floor 0
SettleInvariant-start first floor k e = record {
  steps = 0;
  leads = record { can_step = tt; reaches = refl; not_too_deep = λ m le. let z : m ≡ 0 = omega arith in rw z k.sound.not_too_deep };
  left = refl;
  not_refused = λ r. r;
  kept = k;
  relative = begins_at first k floor e;
}

-- A step that does not make the tree too deep is appended to the steps so far.
pub leads_more : (n : ℕ) (first now : Position) → StepsLeadTo n first now → CanResume (phase_of now) → too_deep (resumed now).pairs.trees ≡ false → StepsLeadTo (suc n) first (resumed now)
leads_more n first now l g fits =
    let there : after_steps (suc n) first ≡ resumed now = after_steps-suc n first ∙ ap resumed l.reaches in
    record {
      can_step = CanMakeSteps-suc n first l.can_step (subst (λ (p : Position). CanResume (phase_of p)) (sym l.reaches) g);
      reaches = there;
      not_too_deep = λ m le. elim (cases_lt m (suc n)) [ inl lt ↦ l.not_too_deep m (omega arith) | inr ge ↦ (let e : m ≡ suc n = omega arith in rw e (ap (λ (p : Position). too_deep p.pairs.trees) there ∙ fits)) ];
    }

same_look : (a b : Option ℕ) → look_list a ≡ look_list b → a ≡ b
same_look None None e = refl
same_look None (Some y) e = cc
same_look (Some x) None e = cc
same_look (Some x) (Some y) e = cc

module _ (first now new : Position) (floor count q p : ℕ) (h : SettleInvariant first now floor count) (at : phase_of now ≡ phases.AboutToReduce q p) (is : new ≡ resumed now) (fits : too_deep (resumed now).pairs.trees ≡ false) (k : CheckpointFacts new) where
  one : Reduction now p
  one = reduction now p h.kept.halting.facts h.kept.sound (reduce_phase_move now q p at)

  new_leads : StepsLeadTo (suc h.steps) first new
  new_leads = subst (StepsLeadTo (suc h.steps) first) (sym is) (leads_more h.steps first now h.leads (can_resume_at_reduction now q p at) fits)

  new_left : new.left ≡ now.left
  new_left = ap (λ (x : Position). x.left) is ∙ one.same_left

  new_not_refused : new.refused ≡ false
  new_not_refused = ap (λ (x : Position). x.refused) is ∙ one.not_refused

  new_table : new.table ≡ now.table
  new_table = ap (λ (x : Position). x.table) is ∙ resumed_table now

  new_look : h.kept.look ≡ k.look
  new_look = same_look h.kept.look k.look (h.kept.left_is ∙ sym new_left ∙ sym k.left_is)

  new_states : length new.pairs.states + length (rhs_of now.table.grammar p) ≡ length now.pairs.states + 1
  new_states = let e : length new.pairs.states ≡ length (resumed now).pairs.states = ap (λ (x : Position). length x.pairs.states) is in let s = one.shorter in omega arith

  pub progress_above : floor < length new.pairs.trees → SettleInvariant first new floor (count + 1)
  progress_above lt =
      let l = k.sound.trees_match.len in
      let s = new_states in
      let next : run_move_of now.table (top_of now.pairs.states) (look_list h.kept.look) ≡ Reduces p = subst (λ (left : List ℕ). run_move_of now.table (top_of now.pairs.states) left ≡ Reduces p) (sym h.kept.left_is) (reduce_phase_move now q p at) in
      let more = Relative-step now.table h.kept.look now.pairs.states (resumed now).pairs.states floor count p h.relative next (omega arith) one.reduced in
      let c : suc count ≡ count + 1 = omega arith in
      record {
        steps = suc h.steps;
        leads = new_leads;
        left = new_left ∙ h.left;
        not_refused = λ r. new_not_refused;
        kept = k;
        relative = subst (λ (n : ℕ). Relative new.table k.look new.pairs.states floor n) c (subst (λ (o : Option ℕ). Relative new.table o new.pairs.states floor (suc count)) new_look
            (subst (λ (x : Position). Relative x.table h.kept.look x.pairs.states floor (suc count)) (sym is) (subst (λ (t : TableData). Relative t h.kept.look (resumed now).pairs.states floor (suc count)) (sym (resumed_table now)) more)));
      }

  pub progress_below : (lower : ℕ) → lower ≡ length new.pairs.trees - 1 → SettleInvariant first new lower 0
  progress_below lower e = record { steps = suc h.steps; leads = new_leads; left = new_left ∙ h.left; not_refused = λ r. new_not_refused; kept = k; relative = begins_at new k lower e }

  -- There is at least one tree after a reduction.
  pub some_tree : 0 < length new.pairs.trees
  some_tree =
      let run = IsRunStack-of_trees now.table now.pairs.states now.pairs.trees h.kept.sound.trees_match in
      let found = finds_states_and_edge now.table h.kept.halting.facts now.pairs.states run p (reduces_from_move now.table (top_of now.pairs.states) now.left p (reduce_phase_move now q p at)) in
      let room = found.states in
      let l = k.sound.trees_match.len in
      let s = new_states in omega arith

pub settles : (first now : Position) (floor count : ℕ) → SettleInvariant first now floor count → ((q p : ℕ) → phase_of now ≡ phases.AboutToReduce q p → ⊥) → SettlesTo first now
settles first now floor count h none = record { steps = h.steps; leads = h.leads; left = h.left; not_refused = h.not_refused; settled = none }

pub settles_deep : (first now : Position) (floor count q p : ℕ) → SettleInvariant first now floor count → phase_of now ≡ phases.AboutToReduce q p → too_deep (resumed now).pairs.trees ≡ true → SettlesTooDeep first
settles_deep first now floor count q p h at deep = record {
  steps = suc h.steps;
  can_step = CanMakeSteps-suc h.steps first h.leads.can_step (subst (λ (x : Position). CanResume (phase_of x)) (sym h.leads.reaches) (can_resume_at_reduction now q p at));
  deep = ap (λ (x : Position). too_deep x.pairs.trees) (after_steps-suc h.steps first ∙ ap resumed h.leads.reaches) ∙ deep;
}
