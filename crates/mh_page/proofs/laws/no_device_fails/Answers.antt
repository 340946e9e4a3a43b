use Rattle.mh_page.proofs.IsAnswer.{no_write_fault}
use Rattle.mh_page.proofs.IsRun.{no_device_fault, does_work}
use Rattle.mh_page.proofs.laws.no_device_fails.Goals as goal

pub returns-clause-quiet : goal.returns-clause-quiet
returns-clause-quiet c = no_device_fault

pub returns-clause-work : goal.returns-clause-work
returns-clause-work c = does_work

pub returns-clause-writes : goal.returns-clause-writes
returns-clause-writes c = no_write_fault
