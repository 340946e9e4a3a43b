use Rattle.mh_top_prepare.proofs.LastLine.{both_written, first_cut}
use Rattle.mh_top_prepare.proofs.last_line.write_both.Goals as goal

pub returns-in-Ok-clause-bytes : goal.returns-in-Ok-clause-bytes
returns-in-Ok-clause-bytes g c = both_written _ _ _ c.args.first.now c.args.second.now c.write_whole-in-Ok.result c.in-Ok.ensures.bytes c.write_whole-in-Ok.ensures.bytes

pub returns-in-Err-clause-bytes : goal.returns-in-Err-clause-bytes
returns-in-Err-clause-bytes g c = first_cut _ _ c.args.first.now c.args.second.now c.in-Err.ensures.bytes
