use Rattle.std.proofs.Common.{◌≡◌, ℕ, Err, None, Option, Result, inl, refl, subst, sym}
use Rattle.mh_grammar.specs.Text.{Text}
use Rattle.mh_msgfile.specs.declared.loose.LooseFile.{LooseFile}
use Rattle.mh_outside.specs.Shelf.{Files}
use Rattle.mh_top_drive.proofs.OpenedModes.{shelf_counts_of_mode}
use Rattle.mh_top_drive.specs.FileContents.{IsFileContent}
use Rattle.mh_top_drive.specs.StageResults.{Go}
use Rattle.mh_top_drive.specs.code.ModeCalls.{ModeShelfCounts}
use Rattle.mh_top_drive.specs.code.StageCalls.{FileStageGives}
use Rattle.mh_top_drive.specs.declared.stop.Stop.{Stop}
use Rattle.mh_top_plans.specs.Files.{IsNextFileOfJob}
use Rattle.mh_top_plans.specs.MessagesFiles.{IsLooseFile}
use Rattle.mh_top_plans.specs.Plan.{Ends, IsPlanOfJob, Plan, Rebased, plan_behavior}
use Rattle.mh_top_plans.specs.code.Modes.{Opens}
use Rattle.mh_opts.specs.declared.jobs.Job.TheVariants.{RebaseErrors}
use Rattle.mh_top_plans.proofs.LooseFiles.{short_file}
use Rattle.mh_top_plans.proofs.MessagesFileLines.{one_opens}
use Rattle.mh_top_plans.proofs.OpenedAndRan.{opened_followed, opened_read}
use Rattle.mh_top_drive.specs.Shapes.{Prepared}
use Rattle.mh_top_lists.proofs.RebasedWritten.{IsPlanOfLoose}
use Rattle.mh_top_lists.proofs.rebasing.rebase_errors.Goals as goal

-- A file that stops the work opens no mode.
stops : (p : Prepared) (files : Option Files) (file : Text) (stop : Stop) → FileStageGives {A = LooseFile} (IsFileContent files IsLooseFile file) (λ (other : Text). other ≡ file) (Err stop)
    → Opens {M = LooseFile} (IsPlanOfLoose p) (IsPlanOfJob (RebaseErrors file) files p) (IsNextFileOfJob (RebaseErrors file) files p) (Err stop)
stops p files file stop has = one_opens p files (IsFileContent files IsLooseFile file) file (IsPlanOfLoose p) (λ (loose : LooseFile). Ends (Rebased loose p)) stop has

pub write_at_end-requires : goal.write_at_end-requires
write_at_end-requires g c = record { ready = (c.requires.few, c.requires.consistent, short_file (g.F.Shelf.files c.args.shelf.now) c.args.file.now c.in-Ok.file c.in-Ok.ensures.loose); may_read = c.requires.may_read; may_write = c.requires.may_write }

pub returns-in-Ok-clause-ran : goal.returns-in-Ok-clause-ran
returns-in-Ok-clause-ran g c = inl (Ends (Rebased c.in-Ok.file c.args.prepared.now), (Go c.in-Ok.file, c.in-Ok.ensures.loose, refl), c.write_at_end.ensures.ran)

pub returns-in-Ok-clause-read : goal.returns-in-Ok-clause-read
returns-in-Ok-clause-read g c =
    subst (λ (k : ℕ). ModeShelfCounts (g.F.Shelf.faults c.args.shelf.now) k c.write_at_end.result) (sym c.in-Ok.ensures.counts) (shelf_counts_of_mode plan_behavior _ _ _ _ _ _ c.write_at_end.result c.write_at_end.ensures.ran)

pub returns-in-Err-clause-ran : goal.returns-in-Err-clause-ran
returns-in-Err-clause-ran g c =
    let p = c.args.prepared.now in
    let files = g.F.Shelf.files c.args.shelf.now in
    let opened : Result LooseFile Stop = Err c.in-Err.stop in
    opened_followed (IsPlanOfLoose p) _ _ _ _ _ _ _ opened (stops p files c.args.file.now c.in-Err.stop c.in-Err.ensures.loose) (refl, refl, refl)

pub returns-in-Err-clause-read : goal.returns-in-Err-clause-read
returns-in-Err-clause-read g c =
    let p = c.args.prepared.now in
    let files = g.F.Shelf.files c.args.shelf.now in
    let opened : Result LooseFile Stop = Err c.in-Err.stop in
    opened_read (IsPlanOfLoose p) (IsPlanOfJob (RebaseErrors c.args.file.now) files p) (IsNextFileOfJob (RebaseErrors c.args.file.now) files p) opened None None None None _ _ _ (stops p files c.args.file.now c.in-Err.stop c.in-Err.ensures.loose) c.in-Err.ensures.counts (refl, refl, refl)
