use Rattle.mh_tabfile_read.specs.declared.reading.TabFault.TheVariants.{Version}
use Rattle.mh_top_prepare.proofs.IsTableFault.{rejected_so}
use Rattle.mh_top_prepare.proofs.table_file.raw_in.Goals as goal

pub returns-in-Err-Version : goal.returns-in-Err-Version
returns-in-Err-Version c = rejected_so c.args.name.now c.args.bytes.now Version c.refused.result (rw c.in-Err-Version.field-0-is at c.in-Err-Version.ensures.reading) c.refused.ensures
