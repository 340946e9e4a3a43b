use Rattle.mh_top_drive.proofs.OpenedModes.{InputAndOutCounts-unopened}
use Rattle.mh_top_plans.specs.code.Modes.{WritesFinal}
use Rattle.mh_top_plans.proofs.OpenedAndRan.{made_driven}
use Rattle.mh_top_plans.proofs.at_end.write_made.Goals as goal

pub returns-in-Ok-clause-ran : goal.returns-in-Ok-clause-ran
returns-in-Ok-clause-ran g c = made_driven c.args.made _ _ _ _ _ c.write_at_end.result c.in-Ok.is c.write_at_end.ensures.ran

pub returns-in-Err-clause-counts : goal.returns-in-Err-clause-counts
returns-in-Err-clause-counts g c = InputAndOutCounts-unopened WritesFinal c.in-Err.stop _ _ (rw c.in-Err.is at c.requires.some)
