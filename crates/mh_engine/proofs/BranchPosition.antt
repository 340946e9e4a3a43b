-- Proves that a checkpoint has the position of its branch after a start, a step and an offer.
use Rattle.std.proofs.Common.{◌≡◌, ℕ, zero, suc, ◌+◌, ◌<◌, List, [], ◌∷◌, ◌++◌, refl, ap, sym, subst, arith, ◌∙◌}
use Rattle.std.specs.Prelude.{Result, Ok, Err, IfOk}
use Rattle.mh_tables_core.specs.Table.{TableData}
use Rattle.mh_engine.specs.Positions.{Position}
use Rattle.mh_engine.specs.Phases.{phase_of, CanResume}
use Rattle.mh_engine.specs.Steps.{initial_position, resumed, offered}
use Rattle.mh_engine.specs.code.ManySteps.{after_steps, CanMakeSteps}
use Rattle.mh_engine.specs.Branches.{Branch, HasPosition, AreSteps, run_position, with_token, with_step, new_branch}
use Rattle.mh_engine.specs.declared.fault.ResumeFault.{ResumeFault}
use Rattle.mh_engine.proofs.OneMoreStep.{after_steps-suc, CanMakeSteps-suc, resumed_table, steps_offered}
use Rattle.mh_engine.proofs.StepsOfRun.{after_steps-run}

-- The position is reached by the steps of the branch from the initial position of its run.
record IsWalked (b : Branch) (c : Position) : Type 0 where
  can_step : CanMakeSteps b.resumes (initial_position c.table b.start b.offered)
  position_is : c ≡ after_steps b.resumes (initial_position c.table b.start b.offered)

can_each : (n m : ℕ) (c : Position) → CanMakeSteps n c → m < n → CanResume (phase_of (after_steps m c))
can_each zero m c h lt = absurd (omega arith)
can_each (suc n) zero c h lt = h.0
can_each (suc n) (suc m) c h lt = can_each n m (resumed c) h.1 (omega arith)

can_all : (n : ℕ) (c : Position) → ((m : ℕ) → m < n → CanResume (phase_of (after_steps m c))) → CanMakeSteps n c
can_all zero c h = tt
can_all (suc n) c h = CanMakeSteps-suc n c (can_all n c (λ m lt. h m (omega arith))) (h n (omega arith))

walked : (b : Branch) (c : Position) → HasPosition b c → IsWalked b c
walked b c h = record {
  can_step = can_all b.resumes (initial_position c.table b.start b.offered) (λ m lt. subst (λ (p : Position). CanResume (phase_of p)) (sym (after_steps-run c.table b.start b.offered m)) (h.made m lt));
  position_is = h.position ∙ sym (after_steps-run c.table b.start b.offered b.resumes);
}

HasPosition-walked : (b : Branch) (c : Position) → IsWalked b c → HasPosition b c
HasPosition-walked b c h = record {
  made = λ m lt. subst (λ (p : Position). CanResume (phase_of p)) (after_steps-run c.table b.start b.offered m) (can_each b.resumes m (initial_position c.table b.start b.offered) h.can_step lt);
  position = h.position_is ∙ after_steps-run c.table b.start b.offered b.resumes;
}

pub HasPosition-start : (t : TableData) (start : ℕ) → HasPosition (new_branch start) (initial_position t start [])
HasPosition-start t start = HasPosition-walked (new_branch start) (initial_position t start []) (record { can_step = tt; position_is = refl })

walked_on : (b : Branch) (c : Position) → IsWalked b c → CanResume (phase_of c) → IsWalked (with_step b) (resumed c)
walked_on b c h g =
    let first : Position = initial_position c.table b.start b.offered in
    let at : CanResume (phase_of (after_steps b.resumes first)) = subst (λ (p : Position). CanResume (phase_of p)) h.position_is g in
    record {
      can_step = subst (λ (t : TableData). CanMakeSteps (suc b.resumes) (initial_position t b.start b.offered)) (sym (resumed_table c)) (CanMakeSteps-suc b.resumes first h.can_step at);
      position_is = ap resumed h.position_is ∙ sym (after_steps-suc b.resumes first) ∙ ap (λ (t : TableData). after_steps (suc b.resumes) (initial_position t b.start b.offered)) (sym (resumed_table c));
    }

pub HasPosition-step : (b : Branch) (c : Position) → HasPosition b c → CanResume (phase_of c) → HasPosition (with_step b) (resumed c)
HasPosition-step b c h g = HasPosition-walked (with_step b) (resumed c) (walked_on b c (walked b c h) g)

walked_offered : (b : Branch) (c : Position) (z : ℕ) → IsWalked b c → IsWalked (with_token b z) (offered c z)
walked_offered b c z h =
    let all = steps_offered b.resumes (initial_position c.table b.start b.offered) z h.can_step in
    record { can_step = all.0; position_is = ap (λ (p : Position). offered p z) h.position_is ∙ sym all.1 }

pub HasPosition-token : (b : Branch) (c : Position) (z : ℕ) → HasPosition b c → HasPosition (with_token b z) (offered c z)
HasPosition-token b c z h = HasPosition-walked (with_token b z) (offered c z) (walked_offered b c z (walked b c h))

-- If a resume succeeds, its result is the position, after one more step, of every branch that had the old position.
pub HasPosition-resumed_ok : (r : Result Position ResumeFault) (c : Position) → CanResume (phase_of c) → IfOk r (λ c'. c' ≡ resumed c) → IfOk r (λ c'. (b : Branch) → HasPosition b c → HasPosition (with_step b) c')
HasPosition-resumed_ok (Ok c') c g e = λ b h. subst (HasPosition (with_step b)) (sym e) (HasPosition-step b c h g)
HasPosition-resumed_ok (Err f) c g e = tt
