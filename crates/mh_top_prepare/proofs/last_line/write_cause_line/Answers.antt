use Rattle.std.proofs.Common.{ap, refl}
use Rattle.mh_top_drive.specs.Text.{cannot_read, too_big}
use Rattle.mh_top_prepare.proofs.LastLine.{cause_reported}
use Rattle.mh_top_prepare.proofs.last_line.write_cause_line.Goals as goal

pub returns-in-Missing : goal.returns-in-Missing
returns-in-Missing g c = cause_reported _ _ _ _ _ _ _ _ c.write_last_line-in-Missing.result c.in-Missing.is c.code-status.ensures (ap cannot_read c.as_slice-in-Missing.ensures) c.write_last_line-in-Missing.ensures

pub returns-in-LongFile : goal.returns-in-LongFile
returns-in-LongFile g c = cause_reported _ _ _ _ _ _ _ _ c.write_last_line-in-LongFile.result c.in-LongFile.is c.code-status.ensures (ap too_big c.as_slice-in-LongFile.ensures) c.write_last_line-in-LongFile.ensures

pub returns-in-LongInput : goal.returns-in-LongInput
returns-in-LongInput g c = cause_reported _ _ _ _ _ _ _ _ c.write_last_line-in-LongInput.result c.in-LongInput.is c.code-status.ensures refl c.write_last_line-in-LongInput.ensures
