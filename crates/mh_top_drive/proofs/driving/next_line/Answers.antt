use Rattle.mh_top_drive.proofs.LineCalls.{next_fault, next_taken}
use Rattle.mh_top_drive.proofs.driving.next_line.Goals as goal

pub returns-in-Ok-clause-line : goal.returns-in-Ok-clause-line
returns-in-Ok-clause-line g c = next_taken _ _ c.in-Ok.line c.in-Ok.ensures.bytes c.in-Ok.ensures.found

pub returns-in-Err-clause-line : goal.returns-in-Err-clause-line
returns-in-Err-clause-line g c = next_fault _ _ c.in-Err.fault _ c.stop_of.ensures c.in-Err.ensures.bytes

pub returns-in-Ok-clause-counts : goal.returns-in-Ok-clause-counts
returns-in-Ok-clause-counts g c = c.in-Ok.ensures.counts
