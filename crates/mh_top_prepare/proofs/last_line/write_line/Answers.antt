use Rattle.mh_top_prepare.proofs.LastLine.{both_written, first_cut}
use Rattle.mh_top_prepare.proofs.last_line.write_line.Goals as goal

pub returns-in-Ok-clause-bytes : goal.returns-in-Ok-clause-bytes
returns-in-Ok-clause-bytes g c = both_written _ _ _ _ c.args.after.now c.write_whole.result c.in-Ok.ensures.bytes c.write_whole.ensures.bytes

pub returns-in-Err-clause-bytes : goal.returns-in-Err-clause-bytes
returns-in-Err-clause-bytes g c = first_cut _ _ _ c.args.after.now c.in-Err.ensures.bytes
