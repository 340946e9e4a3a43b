use Rattle.mh_check.specs.Texts.{file_line}
use Rattle.mh_check.proofs.FaultLines.{ReportsFileFault-empty_start}
use Rattle.mh_check.proofs.texts.file_fault_line.Goals as goal

pub returns : goal.returns
returns c = ReportsFileFault-empty_start c.args.fault.now (file_line c.args.name.now) c.new-text.result.items c.write_file_fault.new.text.items c.new-text.ensures.items c.in_ok-write_file_fault.ensures
