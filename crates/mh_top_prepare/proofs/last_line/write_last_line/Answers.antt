use Rattle.std.proofs.Common.{inr, refl}
use Rattle.mh_top_prepare.proofs.last_line.write_last_line.Goals as goal

pub returns-in-Err : goal.returns-in-Err
returns-in-Err g c = inr (refl, c.in-Err.ensures.bytes, c.in-Err.ensures.counts.1)
