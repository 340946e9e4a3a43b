-- Lemmas on opening the mode of a job and running it.
use Rattle.std.proofs.Common.{◌≡◌, inl, inr, ℕ, [], arith, Option, None, Some, refl, sym, subst}
use Rattle.std.proofs.KnownBytes.{Appends-nil}
use Rattle.std.specs.Prelude.{true, Result, Ok, Err}
use Rattle.mh_outside.specs.Shelf.{Files}
use Rattle.mh_opts.specs.declared.jobs.Job.{Job}
use Rattle.mh_grammar.specs.Text.{Text}
use Rattle.mh_top_drive.specs.ModeRuns.{IsCompleteRun, LeavesInput}
use Rattle.mh_top_drive.specs.code.ModeCalls.{ModeRan, ModeShelfCounts}
use Rattle.mh_top_drive.specs.code.OpenedModes.{OpenedModeRan, IsOpened}
use Rattle.mh_top_drive.specs.code.StageCalls.{StageShelfCounts}
use Rattle.mh_top_drive.specs.ModeBehavior.{input_left}
use Rattle.mh_top_drive.specs.declared.stop.Cause.{Cause}
use Rattle.mh_top_drive.specs.declared.stop.Stop.{Stop}
use Rattle.mh_top_drive.specs.declared.stop.Stop.TheVariants.{Halted, ShelfFailed, InputFailed, WriteFailed, OutOfMemory}
use Rattle.mh_top_drive.proofs.OpenedModes.{shelf_counts_of_mode}
use Rattle.mh_top_drive.specs.Shapes.{Prepared}
use Rattle.mh_top_plans.specs.Files.{IsNextFileOfJob}
use Rattle.mh_top_plans.specs.code.Modes.{OpenedAndRan, IsUnopened, Opens, WritesFinal}
use Rattle.mh_top_plans.specs.declared.at_end.FinalText.{FinalText}
use Rattle.mh_top_plans.specs.Plan.{Plan, plan_behavior, IsPlanOfJob, halts, writing_plan}

-- ---- A mode that ends at once.

pub ended_halts : (cause : Cause) (left out : Option Text) → IsCompleteRun plan_behavior (halts cause) left left out out (Some cause)
ended_halts cause left out = record {
  outcome = record { cause = Some cause; out = []; left = input_left left true [] };
  yields = record { lines = []; complete = true; asks = (refl, refl); text = []; last = halts cause; answers = (refl, refl); ends = (_, refl, refl, refl); left_is = refl };
  cause_is = refl;
  on_out = Appends-nil out;
  left_is = left_still left;
}
  where
    left_still : (l : Option Text) → LeavesInput (input_left l true []) l
    left_still None = tt
    left_still (Some input) = refl

-- ---- Opening a mode.

module _ {M : Type 0} (StandsFor : M → Plan → Type 0) where
  stopped_read : (stop : Stop) (n m : ℕ) → StageShelfCounts {A = M} n m (Err stop) → ModeShelfCounts {T = Unit {0}} n m (Err stop)
  stopped_read (Halted cause) n m counts = counts
  stopped_read (ShelfFailed name) n m counts = counts
  stopped_read OutOfMemory n m counts = counts
  stopped_read InputFailed n m counts = absurd counts
  stopped_read WriteFailed n m counts = absurd counts

  -- The shelf's count after a mode ran is the count after it was opened.
  pub opened_read : (Is : Plan → Type 0) (Names : Text → Type 0) (opened : Result M Stop) (in0 in1 out0 out1 : Option Text) (n m : ℕ) (r : Result (Unit {0}) Stop) → Opens StandsFor Is Names opened → StageShelfCounts n m opened → OpenedModeRan plan_behavior StandsFor opened in0 in1 out0 out1 r → ModeShelfCounts n m r
  opened_read Is Names (Ok mode) in0 in1 out0 out1 n m r opens counts driven = subst (λ (k : ℕ). ModeShelfCounts n k r) (sym counts) (shelf_counts_of_mode plan_behavior opens.0 in0 in1 out0 out1 n r (driven opens.0 opens.2))
  opened_read Is Names (Err stop) in0 in1 out0 out1 n m r opens counts driven = subst (ModeShelfCounts n m) (sym driven.0) (stopped_read stop n m counts)

  pub opened_some : (Is : Plan → Type 0) (Names : Text → Type 0) (opened : Result M Stop) → Opens StandsFor Is Names opened → IsOpened StandsFor opened
  opened_some Is Names (Ok mode) opens = (opens.0, opens.2)
  opened_some Is Names (Err (Halted cause)) opens = tt
  opened_some Is Names (Err (ShelfFailed name)) opens = tt
  opened_some Is Names (Err OutOfMemory) opens = tt
  opened_some Is Names (Err InputFailed) opens = opens
  opened_some Is Names (Err WriteFailed) opens = opens

-- A final text that was made is written by the mode that writes it.
pub made_driven : (made : Result FinalText Stop) (text : FinalText) (in0 in1 out0 out1 : Option Text) (r : Result (Unit {0}) Stop) → made ≡ Ok text → ModeRan plan_behavior (writing_plan text) in0 in1 out0 out1 r → OpenedModeRan plan_behavior WritesFinal made in0 in1 out0 out1 r
made_driven made text in0 in1 out0 out1 r is ran =
    subst (λ (m : Result FinalText Stop). OpenedModeRan plan_behavior WritesFinal m in0 in1 out0 out1 r) (sym is) (λ plan same. subst (λ (p : Plan). ModeRan plan_behavior p in0 in1 out0 out1 r) (sym same) ran)

-- ---- Opening and running a mode.

-- A mode with one of the possible plans was opened and ran, or could not be opened.
module _ {M : Type 0} (StandsFor : M → Plan → Type 0) (Is : Plan → Type 0) (Names : Text → Type 0) (in0 in1 out0 out1 : Option Text) (r : Result (Unit {0}) Stop) where
  pub opened_followed : (opened : Result M Stop) → Opens StandsFor Is Names opened → OpenedModeRan plan_behavior StandsFor opened in0 in1 out0 out1 r → OpenedAndRan Is Names in0 in1 out0 out1 r
  opened_followed (Ok mode) opens driven = inl (opens.0, opens.1, driven opens.0 opens.2)
  opened_followed (Err (Halted cause)) opens driven =
      let ended : ModeRan plan_behavior (halts cause) in0 in0 out0 out0 (Err (Halted cause)) = ended_halts cause in0 out0 in
      inl (halts cause, opens, subst (λ s. ModeRan plan_behavior (halts cause) in0 in1 out0 out1 s) (sym driven.0) (subst (λ x. ModeRan plan_behavior (halts cause) in0 in1 out0 x (Err (Halted cause))) (sym driven.2) (subst (λ x. ModeRan plan_behavior (halts cause) in0 x out0 out0 (Err (Halted cause))) (sym driven.1) ended)))
  opened_followed (Err OutOfMemory) opens driven = inr (subst (IsUnopened Names) (sym driven.0) tt, driven.1, driven.2)
  opened_followed (Err (ShelfFailed name)) opens driven = inr (subst (IsUnopened Names) (sym driven.0) opens, driven.1, driven.2)
  opened_followed (Err InputFailed) opens driven = absurd opens
  opened_followed (Err WriteFailed) opens driven = absurd opens

-- A mode that reads no file, so that the shelf never fails.
module _ (Is : Plan → Type 0) (in0 in1 out0 out1 : Option Text) where
  none_unopened : (Names : Text → Type 0) (r : Result (Unit {0}) Stop) → IsUnopened (λ name. ⊥) r → IsUnopened Names r
  none_unopened Names (Err OutOfMemory) is = tt
  none_unopened Names (Ok u) is = absurd is
  none_unopened Names (Err (ShelfFailed name)) is = absurd is
  none_unopened Names (Err (Halted cause)) is = absurd is
  none_unopened Names (Err InputFailed) is = absurd is
  none_unopened Names (Err WriteFailed) is = absurd is

  pub still_followed : (Names : Text → Type 0) (r : Result (Unit {0}) Stop) → OpenedAndRan Is (λ name. ⊥) in0 in1 out0 out1 r → OpenedAndRan Is Names in0 in1 out0 out1 r
  still_followed Names r (inl ran) = inl ran
  still_followed Names r (inr not) = inr (none_unopened Names r not.0, not.1, not.2)

  unopened_read : (n : ℕ) (r : Result (Unit {0}) Stop) → IsUnopened (λ name. ⊥) r → ModeShelfCounts n n r
  unopened_read n (Err OutOfMemory) is = omega arith
  unopened_read n (Ok u) is = absurd is
  unopened_read n (Err (ShelfFailed name)) is = absurd is
  unopened_read n (Err (Halted cause)) is = absurd is
  unopened_read n (Err InputFailed) is = absurd is
  unopened_read n (Err WriteFailed) is = absurd is

  pub still_read : (n : ℕ) (r : Result (Unit {0}) Stop) → OpenedAndRan Is (λ name. ⊥) in0 in1 out0 out1 r → ModeShelfCounts n n r
  still_read n r (inl ran) = shelf_counts_of_mode plan_behavior ran.0 in0 in1 out0 out1 n r ran.2
  still_read n r (inr not) = unopened_read n r not.0

-- ---- The mode of the job of an order.

module _ (files : Option Files) (p : Prepared) (job : Job) (is : p.order.job ≡ job) (in0 in1 out0 out1 : Option Text) (r : Result (Unit {0}) Stop) where
  -- A result for a job is one for an order that has this job.
  pub of_job : OpenedAndRan (IsPlanOfJob job files p) (IsNextFileOfJob job files p) in0 in1 out0 out1 r → OpenedAndRan (IsPlanOfJob p.order.job files p) (IsNextFileOfJob p.order.job files p) in0 in1 out0 out1 r
  of_job followed = subst (λ (j : Job). OpenedAndRan (IsPlanOfJob j files p) (IsNextFileOfJob j files p) in0 in1 out0 out1 r) (sym is) followed

  -- A mode that need not be opened ran, with the plan of the job.
  pub of_plan : (plan : Plan) → IsPlanOfJob job files p plan → ModeRan plan_behavior plan in0 in1 out0 out1 r → OpenedAndRan (IsPlanOfJob p.order.job files p) (IsNextFileOfJob p.order.job files p) in0 in1 out0 out1 r
  of_plan plan planned ran = of_job (inl (plan, planned, ran))
