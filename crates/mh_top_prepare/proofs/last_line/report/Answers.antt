use Rattle.std.proofs.Common.{ap, refl}
use Rattle.mh_top_drive.specs.Text.{cannot_read}
use Rattle.mh_top_prepare.proofs.LastLine.{reported, write_failure_reported}
use Rattle.mh_top_prepare.proofs.last_line.report.Goals as goal

pub returns-in-Halted : goal.returns-in-Halted
returns-in-Halted g c = reported _ _ _ _ _ _ _ _ _ _ c.in-Halted.is (refl, refl) refl c.write_cause_line.ensures

pub returns-in-ShelfFailed : goal.returns-in-ShelfFailed
returns-in-ShelfFailed g c = reported _ _ 3 _ _ _ _ _ _ _ c.in-ShelfFailed.is (refl, refl) (ap cannot_read c.as_slice.ensures) c.write_last_line.ensures

pub returns-in-InputFailed : goal.returns-in-InputFailed
returns-in-InputFailed g c = reported _ _ 3 _ _ _ _ _ _ _ c.in-InputFailed.is (refl, refl) refl c.write_last_line-in-InputFailed.ensures

pub returns-in-WriteFailed : goal.returns-in-WriteFailed
returns-in-WriteFailed g c = write_failure_reported _ _ _ c.in-WriteFailed.is

pub returns-in-OutOfMemory : goal.returns-in-OutOfMemory
returns-in-OutOfMemory g c = reported _ _ 6 _ _ _ _ _ _ _ c.in-OutOfMemory.is (refl, refl) refl c.write_last_line-in-OutOfMemory.ensures
