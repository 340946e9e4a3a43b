use Rattle.mh_check.specs.Texts.{check_line}
use Rattle.mh_check.proofs.FaultLines.{ReportsCheckFault-empty_start}
use Rattle.mh_check.proofs.texts.check_fault_line.Goals as goal

pub returns : goal.returns
returns c = ReportsCheckFault-empty_start c.args.fault.now (check_line c.args.name.now) c.new-text.result.items c.write_check_fault.new.text.items c.new-text.ensures.items c.in_ok-write_check_fault.ensures
