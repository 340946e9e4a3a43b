use Rattle.std.proofs.Common.{◌≡◌, ℕ, Err, None, Option, Result, inl, refl, rules, subst, sym}
use Rattle.mh_grammar.specs.Text.{Text}
use Rattle.mh_msgfile.specs.declared.blocks.LooseBlocks.{LooseBlocks}
use Rattle.mh_outside.specs.Shelf.{Files}
use Rattle.mh_top_drive.proofs.OpenedModes.{shelf_counts_of_mode}
use Rattle.mh_top_drive.specs.FileContents.{IsFileContent}
use Rattle.mh_top_drive.specs.StageResults.{Go}
use Rattle.mh_top_drive.specs.code.ModeCalls.{ModeShelfCounts}
use Rattle.mh_top_drive.specs.code.StageCalls.{FileStageGives}
use Rattle.mh_top_drive.specs.declared.stop.Stop.{Stop}
use Rattle.mh_top_plans.specs.Files.{IsNextFileOfJob}
use Rattle.mh_top_plans.specs.MessagesFiles.{AreLooseBlocks}
use Rattle.mh_top_plans.specs.Plan.{Checked, Ends, IsPlanOfJob, Plan, plan_behavior}
use Rattle.mh_top_plans.specs.code.Modes.{Opens}
use Rattle.mh_opts.specs.declared.jobs.Job.TheVariants.{CheckErrors}
use Rattle.mh_top_plans.proofs.FileBlocks.{short_blocks}
use Rattle.mh_top_plans.proofs.MessagesFileLines.{one_opens}
use Rattle.mh_top_plans.proofs.OpenedAndRan.{opened_followed, opened_read}
use Rattle.mh_top_drive.specs.Shapes.{Prepared}
use Rattle.mh_top_lists.proofs.ChecksErrors.{IsPlanOfBlocks}
use Rattle.mh_top_lists.proofs.checking.check_errors.Goals as goal

-- A file that stops the work opens no mode.
stops : (p : Prepared) (files : Option Files) (name : Text) (stop : Stop) → FileStageGives {A = LooseBlocks} (IsFileContent files AreLooseBlocks name) (λ (other : Text). other ≡ name) (Err stop)
    → Opens {M = LooseBlocks} (IsPlanOfBlocks p name) (IsPlanOfJob (CheckErrors name) files p) (IsNextFileOfJob (CheckErrors name) files p) (Err stop)
stops p files name stop has = one_opens p files (IsFileContent files AreLooseBlocks name) name (IsPlanOfBlocks p name) (λ (blocks : LooseBlocks). Ends (Checked name blocks p)) stop has

pub write_at_end-requires : goal.write_at_end-requires
write_at_end-requires g c =
    record { ready = (c.requires.few, c.requires.consistent, short_blocks (g.F.Shelf.files c.args.shelf.now) c.args.name.now c.in-Ok.blocks c.in-Ok.ensures.blocks); may_read = c.requires.may_read; may_write = c.requires.may_write }

pub returns-in-Ok-clause-ran : goal.returns-in-Ok-clause-ran
returns-in-Ok-clause-ran g c = inl (Ends (Checked c.args.name.now c.in-Ok.blocks c.args.prepared.now), (Go c.in-Ok.blocks, c.in-Ok.ensures.blocks, refl), c.write_at_end.ensures.ran)

pub returns-in-Ok-clause-read : goal.returns-in-Ok-clause-read
returns-in-Ok-clause-read g c =
    subst (λ (k : ℕ). ModeShelfCounts (g.F.Shelf.faults c.args.shelf.now) k c.write_at_end.result) (sym c.in-Ok.ensures.counts) (shelf_counts_of_mode plan_behavior _ _ _ _ _ _ c.write_at_end.result c.write_at_end.ensures.ran)

pub returns-in-Err-clause-ran : goal.returns-in-Err-clause-ran
returns-in-Err-clause-ran g c =
    let p = c.args.prepared.now in
    let files = g.F.Shelf.files c.args.shelf.now in
    let name = c.args.name.now in
    let opened : Result LooseBlocks Stop = Err c.in-Err.stop in
    opened_followed (IsPlanOfBlocks p name) _ _ _ _ _ _ _ opened (stops p files name c.in-Err.stop c.in-Err.ensures.blocks) (refl, refl, refl)

pub returns-in-Err-clause-read : goal.returns-in-Err-clause-read
returns-in-Err-clause-read g c =
    let p = c.args.prepared.now in
    let files = g.F.Shelf.files c.args.shelf.now in
    let name = c.args.name.now in
    let opened : Result LooseBlocks Stop = Err c.in-Err.stop in
    opened_read (IsPlanOfBlocks p name) (IsPlanOfJob (CheckErrors name) files p) (IsNextFileOfJob (CheckErrors name) files p) opened None None None None _ _ _ (stops p files name c.in-Err.stop c.in-Err.ensures.blocks) c.in-Err.ensures.counts (refl, refl, refl)
