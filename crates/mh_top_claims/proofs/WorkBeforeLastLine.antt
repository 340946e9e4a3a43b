-- Lemmas on the work after the grammar: the contract of each call gives the contract of all of the work but its last
-- line.
use Rattle.std.proofs.Common.{◌≡◌, inl, inr, ℕ, List, [], arith, Option, None, Some, Bool, true, false, ◌&&◌, refl, sym, ◌∙◌, subst}
use Rattle.std.proofs.KnownBytes.{Appends-nil}
use Rattle.std.specs.Prelude.{Result, Ok, Err}
use Rattle.std.specs.Io.KnownBytes.{Appends}
use Rattle.mh_outside.specs.Shelf.{Files}
use Rattle.mh_grammar.specs.Text.{Text}
use Rattle.mh_opts.specs.declared.jobs.Job.TheVariants.{Check}
use Rattle.mh_opts.specs.declared.order.Order.{Order}
use Rattle.mh_top_check.specs.Examination.{IsNextOfCheck, IsPlanOfCheck}
use Rattle.mh_top_drive.specs.StageResults.{AfterStage, StageResult, Go, Halt}
use Rattle.mh_top_load.specs.Order.{staged_order}
use Rattle.mh_top_load.specs.code.NextGrammarFile.{IsNextGrammarFile}
use Rattle.mh_top_plans.specs.Plan.{Plan, IsPlanOfJob, halts, plan_behavior}
use Rattle.mh_top_plans.specs.Files.{IsNextFileOfJob}
use Rattle.mh_top_plans.proofs.OpenedAndRan.{ended_halts}
use Rattle.mh_top_drive.specs.code.StageCalls.{FileStageGives, StageShelfCounts, StageGives, StopsWith as HaltsWith}
use Rattle.mh_top_load.specs.OrderAndGrammar.{IsOrderAndGrammar, IsWithGrammar}
use Rattle.mh_top_claims.specs.Preparing.{IsPrepared}
use Rattle.mh_top_prepare.specs.PreparedStage.{IsPreparedFromFiles}
use Rattle.mh_top_claims.specs.Work.{Examining, IsPlanOf, IsPlanUnlessRefused, IsWork, NeedsTable, WithTable, Work}
use Rattle.mh_top_prepare.specs.Warnings.{has_warning, warnings_of}
use Rattle.mh_top_drive.specs.ModeBehavior.{input_left}
use Rattle.mh_top_drive.specs.ModeRuns.{IsCompleteRun, LeavesInput}
use Rattle.mh_top_drive.specs.code.ModeCalls.{ModeRan, InputAndOutCounts, ModeShelfCounts, OutCounts}
use Rattle.mh_top_plans.specs.code.Modes.{OpenedAndRan, IsUnopened}
use Rattle.mh_top_prepare.specs.code.Warnings.{Warned}
use Rattle.mh_top_claims.specs.code.WorkBeforeLastLine.{IsWorkBeforeLastLine}
use Rattle.mh_top_claims.specs.Run.{World, AfterWarnings, Nothing, Warned as Said, Begun, IsNextToRead, OfCheck, OfGrammar, OfTables, OfMode, LeavesInputAndOut, IsNextAfterWarnings, IsNextUnlessRefused}
use Rattle.mh_top_drive.specs.declared.front.OrderAndGrammar.{OrderAndGrammar}
use Rattle.mh_top_drive.specs.Shapes.{Prepared}
use Rattle.mh_top_drive.specs.declared.stop.Cause.{Cause}
use Rattle.mh_top_drive.specs.declared.stop.Cause.TheVariants.{Refused}
use Rattle.mh_top_drive.specs.declared.stop.Stop.{Stop}
use Rattle.mh_top_drive.specs.declared.stop.Stop.TheVariants.{Halted, ShelfFailed, InputFailed, WriteFailed, OutOfMemory}
use Rattle.mh_top_drive.proofs.Then.{names_wider, then_on, then_stops}

pub prepared_so : (words : List Text) (files : Option Files) (front : OrderAndGrammar) (p : Prepared) → IsOrderAndGrammar words files (Go front) → IsPreparedFromFiles files front (Go p) → IsPrepared words files (Go p)
prepared_so words files front p is has = (Go front, is, has)

-- ---- The work before anything was written.

pub record IsUntouched (b a : World) : Type 0 where
  pub out : a.out ≡ b.out
  pub err : a.err ≡ b.err
  pub left : a.left ≡ b.left
  pub input_faults : a.input_faults ≡ b.input_faults
  pub out_faults : a.out_faults ≡ b.out_faults
  pub err_faults : a.err_faults ≡ b.err_faults

module _ (words : List Text) (needs : NeedsTable words) (b a : World) (same : IsUntouched b a) where
  still : LeavesInputAndOut b a
  still = record { out = same.out; left = same.left; input_faults = same.input_faults; out_faults = same.out_faults }

  no_err : Appends b.err a.err []
  no_err = subst (λ x. Appends b.err x []) (sym same.err) (Appends-nil b.err)

  left_same : (old new : Option Text) → new ≡ old → LeavesInput (input_left old true []) new
  left_same None new is = tt
  left_same (Some input) new is = is

  ended_before : (cause : Cause) → IsCompleteRun plan_behavior (halts cause) b.left a.left b.out a.out (Some cause)
  ended_before cause = record {
    outcome = record { cause = Some cause; out = []; left = input_left b.left true [] };
    yields = record { lines = []; complete = true; asks = (refl, refl); text = []; last = halts cause; answers = (refl, refl); ends = (_, refl, refl, refl); left_is = refl };
    cause_is = refl;
    on_out = subst (λ x. Appends b.out x []) (sym same.out) (Appends-nil b.out);
    left_is = left_same b.left a.left same.left;
  }

  -- The work stops before the warnings.
  pub stops_before : (stop : Stop) → StageShelfCounts {A = Prepared} b.shelf_faults a.shelf_faults (Err stop) → FileStageGives {A = Prepared} (IsPrepared words b.files) (IsNextToRead words b.files []) (Err stop) → IsWorkBeforeLastLine words b a (Err stop)
  stops_before (Halted cause) counts has = (
    record { shelf = counts; input = same.input_faults; out = same.out_faults; err = same.err_faults },
    record { work = record { warnings = []; plan = halts cause }; is_asked = WithTable needs (Halt cause, has, refl); at = ended_before cause; on_err = no_err },
  )
  stops_before (ShelfFailed name) counts has = (counts.1, record { out = same.out_faults; err = same.err_faults }, ([], has, still, no_err))
  stops_before OutOfMemory counts has = (record { out = same.out_faults; err = same.err_faults }, same.input_faults, Nothing still no_err)
  stops_before InputFailed counts has = absurd has
  stops_before WriteFailed counts has = absurd has

  pub front_stops : (stop : Stop) → StageShelfCounts {A = OrderAndGrammar} b.shelf_faults a.shelf_faults (Err stop) → FileStageGives {A = OrderAndGrammar} (IsOrderAndGrammar words b.files) (IsNextGrammarFile words b.files) (Err stop) → IsWorkBeforeLastLine words b a (Err stop)
  front_stops stop counts has =
      stops_before stop (counts_of stop counts) (then_stops (IsOrderAndGrammar words b.files) (IsPreparedFromFiles b.files) (IsNextToRead words b.files []) stop
      (names_wider (IsOrderAndGrammar words b.files) (IsNextGrammarFile words b.files) (IsNextToRead words b.files []) (Err stop) (λ name turn. OfGrammar needs turn.0 turn.1 turn.2 refl) has))
    where
      counts_of : (s : Stop) → StageShelfCounts {A = OrderAndGrammar} b.shelf_faults a.shelf_faults (Err s) → StageShelfCounts {A = Prepared} b.shelf_faults a.shelf_faults (Err s)
      counts_of (Halted cause) h = h
      counts_of (ShelfFailed name) h = h
      counts_of OutOfMemory h = h
      counts_of InputFailed h = h
      counts_of WriteFailed h = h

  -- The work stops before the table is made.
  pub prepare_stops : (front : OrderAndGrammar) (stop : Stop) → IsOrderAndGrammar words b.files (Go front) → StageShelfCounts {A = Prepared} b.shelf_faults a.shelf_faults (Err stop) → FileStageGives {A = Prepared} (IsPreparedFromFiles b.files front) (λ name. front.order.tables ≡ Some name) (Err stop) → IsWorkBeforeLastLine words b a (Err stop)
  prepare_stops front stop is counts has =
      stops_before stop counts (then_on (IsOrderAndGrammar words b.files) (IsPreparedFromFiles b.files) (IsNextToRead words b.files []) front (Err stop) is
      (names_wider (IsPreparedFromFiles b.files front) (λ name. front.order.tables ≡ Some name) (IsNextToRead words b.files []) (Err stop) (λ name named. OfTables needs (front, is, named) refl) has))

-- ---- If writing the warnings stops the work, this is the work before the last line.

module _ (words : List Text) (needs : NeedsTable words) (b : World) (p : Prepared) (is : IsPrepared words b.files (Go p)) (err : Option Text) (n : ℕ) where
  pub warning_stops : (stop : Stop) → Warned (warnings_of p) b.err err (Err stop) → OutCounts {T = Unit {0}} b.err_faults n (Err stop) → IsWorkBeforeLastLine words b (record b { err = err; err_faults = n }) (Err stop)
  warning_stops WriteFailed wrote counts = inl (counts.1, record { needs = needs; prepared = p; is_asked = is; unchanged = record { out = refl; left = refl; input_faults = refl; out_faults = refl }; on_err = wrote })
  warning_stops OutOfMemory wrote counts = (
    record { out = refl; err = counts },
    refl,
    Nothing (record { out = refl; left = refl; input_faults = refl; out_faults = refl }) (subst (λ x. Appends b.err x []) (sym wrote) (Appends-nil b.err)),
  )
  warning_stops (Halted cause) wrote counts = absurd wrote
  warning_stops (ShelfFailed name) wrote counts = absurd wrote
  warning_stops InputFailed wrote counts = absurd wrote

-- ---- If the mode was opened and ran, or could not be opened, this is the work before the last line.

module _ (words : List Text) (b a : World) (work : Work) (is_asked : IsWork words b.files work) (on_err : Appends b.err a.err work.warnings) (err_calm : a.err_faults ≡ b.err_faults) where
  after_warnings : (At : Work → Type 0) → At work → AfterWarnings words b At (Appends b.err a.err)
  after_warnings At at = record { work = work; is_asked = is_asked; at = at; on_err = on_err }

  work_ran : (r : Result (Unit {0}) Stop) → ModeRan plan_behavior work.plan b.left a.left b.out a.out r → InputAndOutCounts b.input_faults a.input_faults b.out_faults a.out_faults r → ModeShelfCounts b.shelf_faults a.shelf_faults r → IsWorkBeforeLastLine words b a r
  work_ran (Ok u) ran counts read = (record { shelf = read; input = counts.0; out = counts.1; err = err_calm }, after_warnings _ ran)
  work_ran (Err (Halted cause)) ran counts read = (record { shelf = read; input = counts.0; out = counts.1; err = err_calm }, after_warnings _ ran)
  work_ran (Err (ShelfFailed name)) ran counts read = absurd ran
  work_ran (Err InputFailed) ran counts read = (counts.1, record { out = counts.2; err = err_calm }, after_warnings _ ran)
  work_ran (Err WriteFailed) ran counts read = inr (counts.2, counts.0, err_calm, after_warnings _ ran)
  work_ran (Err OutOfMemory) ran counts read = (record { out = counts.1; err = err_calm }, counts.0, Begun (after_warnings _ ran))

module _ (words : List Text) (needs : NeedsTable words) (b a : World) (p : Prepared) (is : IsPrepared words b.files (Go p)) (on_err : Appends b.err a.err (warnings_of p)) (err_calm : a.err_faults ≡ b.err_faults) where
  not_opened : (r : Result (Unit {0}) Stop) → IsUnopened (IsNextAfterWarnings b.files p) r → a.left ≡ b.left → a.out ≡ b.out → InputAndOutCounts b.input_faults a.input_faults b.out_faults a.out_faults r → ModeShelfCounts b.shelf_faults a.shelf_faults r → IsWorkBeforeLastLine words b a r
  not_opened (Err OutOfMemory) want left out counts read =
      (record { out = counts.1; err = err_calm }, counts.0, Said needs p is (record { out = out; left = left; input_faults = counts.0; out_faults = counts.1 }) on_err)
  not_opened (Err (ShelfFailed name)) turn left out counts read =
      (read.1, record { out = counts.1; err = err_calm }, (warnings_of p, OfMode needs p is turn refl, record { out = out; left = left; input_faults = counts.0; out_faults = counts.1 }, on_err))
  not_opened (Ok u) want left out counts read = absurd want
  not_opened (Err (Halted cause)) want left out counts read = absurd want
  not_opened (Err InputFailed) want left out counts read = absurd want
  not_opened (Err WriteFailed) want left out counts read = absurd want

  pub followed : (r : Result (Unit {0}) Stop) → OpenedAndRan (IsPlanOf b.files p) (IsNextAfterWarnings b.files p) b.left a.left b.out a.out r → InputAndOutCounts b.input_faults a.input_faults b.out_faults a.out_faults r → ModeShelfCounts b.shelf_faults a.shelf_faults r → IsWorkBeforeLastLine words b a r
  followed r (inl h) counts read = work_ran words b a (record { warnings = warnings_of p; plan = h.0 }) (WithTable needs (Go p, is, (refl, h.1))) on_err err_calm r h.2 counts read
  followed r (inr h) counts read = not_opened r h.0 h.1 h.2 counts read

-- ---- If the words spell no order, this is the work before the last line.

-- The world is the same.
pub order_stops : (words : List Text) (b : World) (stop : Stop) → StageGives {A = Order} (λ s. staged_order words ≡ s) (Err stop) → IsWorkBeforeLastLine words b b (Err stop)
order_stops words b (Halted cause) is =
    let needs : NeedsTable words = λ order on job. (let never : Halt cause ≡ Go order = sym is ∙ on in absurd cc) in
    let front : IsOrderAndGrammar words b.files (Halt cause) = subst (λ (s : StageResult Order). AfterStage {B = OrderAndGrammar} s (λ order. IsWithGrammar order b.files) (Halt cause)) (sym is) refl in
    stops_before words needs b b (record { out = refl; err = refl; left = refl; input_faults = refl; out_faults = refl; err_faults = refl }) (Halted cause) refl (Halt cause, front, refl)
order_stops words b OutOfMemory is =
    (record { out = refl; err = refl }, refl, Nothing (record { out = refl; left = refl; input_faults = refl; out_faults = refl }) (Appends-nil b.err))
order_stops words b (ShelfFailed name) is = absurd is
order_stops words b InputFailed is = absurd is
order_stops words b WriteFailed is = absurd is

-- ---- If grammar files were examined, this is the work before the last line.

module _ (words : List Text) (order : Order) (on : staged_order words ≡ Go order) (job : order.job ≡ Check) (b a : World) (err_same : a.err ≡ b.err) (err_calm : a.err_faults ≡ b.err_faults) where
  no_warnings : Appends b.err a.err []
  no_warnings = subst (λ x. Appends b.err x []) (sym err_same) (Appends-nil b.err)

  not_examined : (r : Result (Unit {0}) Stop) → IsUnopened (IsNextOfCheck order b.files) r → a.left ≡ b.left → a.out ≡ b.out → InputAndOutCounts b.input_faults a.input_faults b.out_faults a.out_faults r → ModeShelfCounts b.shelf_faults a.shelf_faults r → IsWorkBeforeLastLine words b a r
  not_examined (Err OutOfMemory) want left out counts read =
      (record { out = counts.1; err = err_calm }, counts.0, Nothing (record { out = out; left = left; input_faults = counts.0; out_faults = counts.1 }) no_warnings)
  not_examined (Err (ShelfFailed name)) turn left out counts read =
      (read.1, record { out = counts.1; err = err_calm }, ([], OfCheck order on job turn refl, record { out = out; left = left; input_faults = counts.0; out_faults = counts.1 }, no_warnings))
  not_examined (Ok u) want left out counts read = absurd want
  not_examined (Err (Halted cause)) want left out counts read = absurd want
  not_examined (Err InputFailed) want left out counts read = absurd want
  not_examined (Err WriteFailed) want left out counts read = absurd want

  pub examined : (r : Result (Unit {0}) Stop) → OpenedAndRan (IsPlanOfCheck order b.files) (IsNextOfCheck order b.files) b.left a.left b.out a.out r → InputAndOutCounts b.input_faults a.input_faults b.out_faults a.out_faults r → ModeShelfCounts b.shelf_faults a.shelf_faults r → IsWorkBeforeLastLine words b a r
  examined r (inl h) counts read = work_ran words b a (record { warnings = []; plan = h.0 }) (Examining order on job (record { warnings = refl; plan = h.1 })) no_warnings err_calm r h.2 counts read
  examined r (inr h) counts read = not_examined r h.0 h.1 h.2 counts read

-- ---- If reading the files changed neither the files nor the number of faults, the work is also that of the world
-- before.

pub worked_same : (words : List Text) (b a : World) (files : Option Files) (n : ℕ) (r : Result (Unit {0}) Stop) → files ≡ b.files → n ≡ b.shelf_faults → IsWorkBeforeLastLine words (record b { files = files; shelf_faults = n }) a r → IsWorkBeforeLastLine words b a r
worked_same words b a files n r same calm worked = subst (λ (x : World). IsWorkBeforeLastLine words x a r) (λ i. record b { files = same i; shelf_faults = calm i }) worked

-- ---- The refusal under `--strict` follows the plan.

pub refused_followed : (files : Option Files) (p : Prepared) (test : Bool) (stop : Stop) (left out : Option Text) → test ≡ true → test ≡ (p.order.strict && has_warning p.tabled.conflicts) → HaltsWith (Refused []) stop → OpenedAndRan (IsPlanOf files p) (IsNextAfterWarnings files p) left left out out (Err stop)
refused_followed files p test (Halted cause) left out holds is halt =
    let plan : IsPlanOf files p (halts (Refused [])) = subst (λ (b : Bool). IsPlanUnlessRefused b files p (halts (Refused []))) (sym holds ∙ is) refl in
    inl (halts (Refused []), plan, subst (λ (c : Cause). IsCompleteRun plan_behavior (halts (Refused [])) left left out out (Some c)) (sym halt) (ended_halts (Refused []) left out))
refused_followed files p test OutOfMemory left out holds is halt = inr (tt, refl, refl)
refused_followed files p test (ShelfFailed name) left out holds is halt = absurd halt
refused_followed files p test InputFailed left out holds is halt = absurd halt
refused_followed files p test WriteFailed left out holds is halt = absurd halt

-- The refusal reads no file.
pub refused_read : (cause : Cause) (n : ℕ) (stop : Stop) → HaltsWith cause stop → ModeShelfCounts {T = Unit {0}} n n (Err stop)
refused_read cause n (Halted given) halt = refl
refused_read cause n OutOfMemory halt = omega arith
refused_read cause n (ShelfFailed name) halt = absurd halt
refused_read cause n InputFailed halt = absurd halt
refused_read cause n WriteFailed halt = absurd halt

-- ---- The mode of a grammar that is not refused.

module _ (files : Option Files) (p : Prepared) (test : Bool) (no_test : test ≡ false) (test_is : test ≡ (p.order.strict && has_warning p.tabled.conflicts)) where
  IsPlanOf-by_job : (plan : Plan) → IsPlanOfJob p.order.job files p plan → IsPlanOf files p plan
  IsPlanOf-by_job plan planned = subst (λ (b : Bool). IsPlanUnlessRefused b files p plan) (sym no_test ∙ test_is) planned

  IsNextAfterWarnings-by_job : (name : Text) → IsNextFileOfJob p.order.job files p name → IsNextAfterWarnings files p name
  IsNextAfterWarnings-by_job name turn = subst (λ (b : Bool). IsNextUnlessRefused b files p name) (sym no_test ∙ test_is) turn

  IsUnopened-by_job : (r : Result (Unit {0}) Stop) → IsUnopened (IsNextFileOfJob p.order.job files p) r → IsUnopened (IsNextAfterWarnings files p) r
  IsUnopened-by_job (Err OutOfMemory) is = tt
  IsUnopened-by_job (Err (ShelfFailed name)) is = IsNextAfterWarnings-by_job name is
  IsUnopened-by_job (Ok u) is = absurd is
  IsUnopened-by_job (Err (Halted cause)) is = absurd is
  IsUnopened-by_job (Err InputFailed) is = absurd is
  IsUnopened-by_job (Err WriteFailed) is = absurd is

  pub accepted_followed : (in0 in1 out0 out1 : Option Text) (r : Result (Unit {0}) Stop) → OpenedAndRan (IsPlanOfJob p.order.job files p) (IsNextFileOfJob p.order.job files p) in0 in1 out0 out1 r → OpenedAndRan (IsPlanOf files p) (IsNextAfterWarnings files p) in0 in1 out0 out1 r
  accepted_followed in0 in1 out0 out1 r (inl ran) = inl (ran.0, IsPlanOf-by_job ran.0 ran.1, ran.2)
  accepted_followed in0 in1 out0 out1 r (inr not) = inr (IsUnopened-by_job r not.0, not.1, not.2)
