use Rattle.std.specs.Prelude.{Ok, Err}
use Rattle.mh_check.specs.Compiling.{missing}
use Rattle.mh_opts.specs.declared.jobs.Job.TheVariants.{CompareErrors}
use Rattle.mh_top_plans.specs.Compared.{comparison_result}
use Rattle.mh_top_plans.specs.Files.{IsNextFileOfJob}
use Rattle.mh_top_plans.specs.MessagesFiles.{AreMessagesOfBoth}
use Rattle.mh_top_plans.specs.code.Modes.{WritesFinal}
use Rattle.mh_top_plans.specs.Plan.{writing_plan}
use Rattle.mh_top_plans.proofs.MessagesFileLines.{stage_opens}
use Rattle.mh_top_modes.proofs.comparing.compare_errors.Goals as goal

pub returns-in-Err-clause-opens : goal.returns-in-Err-clause-opens
returns-in-Err-clause-opens g c =
    let p = c.args.prepared.now in
    let files = g.F.Shelf.files c.args.shelf.now in
    let first = c.args.first.now in
    let second = c.args.second.now in
    stage_opens (AreMessagesOfBoth files p first second) (IsNextFileOfJob (CompareErrors first second) files p) WritesFinal (λ both. writing_plan (comparison_result first second (missing both.0 both.1))) c.in-Err.stop c.in-Err.ensures.both
