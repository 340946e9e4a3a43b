-- Lemmas on the loop that makes reductions.
use Rattle.std.proofs.Common.{◌≡◌, ℕ, suc, ◌+◌, ◌-◌, ◌<◌, ◌≤◌, List, length, Some, Option, refl, arith, length-append}
use Rattle.std.proofs.lemmas.List.{length-take-le}
use Rattle.mh_grammar.specs.Plain.{rhs_of}
use Rattle.mh_tables_core.specs.Table.{TableData}
use Rattle.mh_tables_core.specs.Halting.{HaltingFacts, IsLook, look_list}
use Rattle.mh_tables_core.specs.Run.{Reduces, run_move_of, top_of, reduce, IsRunStack}
use Rattle.mh_tables_core.proofs.IsPath.{IsRunStack-reduce}
use Rattle.mh_tables_core.proofs.Reductions.{reduced}
use Rattle.mh_tables_core.proofs.ReductionsEnd.{Relative, Relative-start, Relative-step, Relative-few}
use Rattle.mh_run.specs.code.Observers.{Observer}
use Rattle.mh_run.specs.code.Reductions.{StepsLead}
use Rattle.mh_run.proofs.ObserverSteps.{leads_none, leads_more}

-- The invariant of the reductions: the states from index `floor` on are the stack of a relative run after `count`
-- reductions, and the observer has its value.
pub record Progress {S : Type 0} (f : Observer S) (t : TableData) (look : Option ℕ) (old stack : List ℕ) (before now : S) (floor count : ℕ) : Type 0 where
  pub run : IsRunStack t stack
  pub steps : ℕ
  pub leads : StepsLead f t look steps old stack before now
  pub relative : Relative t look stack floor count

-- A reduction takes as many states off the stack as its right side has symbols, and pushes one state.
pub length_reduced : (t : TableData) (p : ℕ) (stack new : List ℕ) → reduce t p stack ≡ Some new → length new + length (rhs_of t.grammar p) ≡ length stack + 1
length_reduced t p stack new e =
    let r = reduced t p stack new e in
    let s = r.found.states in
    let l : length new ≡ length stack - length (rhs_of t.grammar p) + 1 = rw r.is (rw length-append (rw (length-take-le (length stack - length (rhs_of t.grammar p)) stack (omega arith)) refl)) in
    omega arith

run_reduced : (t : TableData) (p : ℕ) (stack new : List ℕ) → IsRunStack t stack → reduce t p stack ≡ Some new → IsRunStack t new
run_reduced t p stack new run e = let r = reduced t p stack new e in rw r.is (IsRunStack-reduce t p stack r.found run)

-- The value after the reduction of production p.
abbrev pub value_reduced : {S : Type 0} → Observer S → TableData → ℕ → S → S
value_reduced f t p now = f.reduced now (length (rhs_of t.grammar p)) p

module _ {S : Type 0} (f : Observer S) (t : TableData) (look : Option ℕ) (old : List ℕ) (before : S) where
  pub progress_from : (floor : ℕ) → IsRunStack t old → floor ≡ length old - 2 → Progress f t look old old before before floor 0
  progress_from floor run e = rw e (record { run = run; steps = 0; leads = leads_none f t look old before; relative = Relative-start t look old run })

  pub progress_few : HaltingFacts t → IsLook t look → (stack : List ℕ) (now : S) (floor count : ℕ) → Progress f t look old stack before now floor count → count ≤ 10000
  progress_few h l stack now floor count p = Relative-few t h.halts look l stack floor count p.relative

  module _ (stack : List ℕ) (now : S) (floor count p : ℕ) (h : Progress f t look old stack before now floor count) (m : run_move_of t (top_of stack) (look_list look) ≡ Reduces p) where
    -- After a reduction that keeps the state at `floor`, the relative run has one reduction more.
    pub progress_above : (new : List ℕ) → reduce t p stack ≡ Some new → floor + 1 < length new → Progress f t look old new before (value_reduced f t p now) floor (suc count)
    progress_above new e above = record {
      run = run_reduced t p stack new h.run e;
      steps = suc h.steps;
      leads = leads_more f t look h.steps old stack before now h.leads p m new e;
      relative = let l = length_reduced t p stack new e in Relative-step t look stack new floor count p h.relative m (omega arith) e;
    }

    -- After a reduction that makes `floor` smaller, a new relative run begins.
    pub progress_to : (new : List ℕ) (floor' : ℕ) → reduce t p stack ≡ Some new → floor' ≡ length new - 2 → Progress f t look old new before (value_reduced f t p now) floor' 0
    progress_to new floor' e low =
        let run : IsRunStack t new = run_reduced t p stack new h.run e in
        rw low (record {
          run = run;
          steps = suc h.steps;
          leads = leads_more f t look h.steps old stack before now h.leads p m new e;
          relative = Relative-start t look new run;
        })

-- A stack after a reduction has at least two states: one that was kept and one that was pushed.
pub reduced_has_two : (t : TableData) (p : ℕ) (stack new : List ℕ) → reduce t p stack ≡ Some new → 2 ≤ length new
reduced_has_two t p stack new e =
    let l = length_reduced t p stack new e in
    let r = reduced t p stack new e in
    let s = r.found.states in
    omega arith
