use Rattle.std.proofs.Common.{arith}
use Rattle.std.proofs.lemmas.Grind.{common_steps}
use Rattle.mh_report.proofs.lines.write_all_reduced.Goals as goal

pub loop-production-preserved : goal.loop-production-preserved
loop-production-preserved c = grind (arith, common_steps)
