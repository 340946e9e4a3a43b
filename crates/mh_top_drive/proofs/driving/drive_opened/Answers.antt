use Rattle.mh_top_drive.proofs.OpenedModes.{InputAndOutCounts-unopened}
use Rattle.mh_top_drive.proofs.driving.drive_opened.Goals as goal

pub returns-in-Err-clause-counts : goal.returns-in-Err-clause-counts
returns-in-Err-clause-counts g c = InputAndOutCounts-unopened g.M.Mode.Is c.in-Err.stop _ _ (rw c.in-Err.is at c.requires.some)
