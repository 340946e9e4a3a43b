use Rattle.mh_tables.proofs.HaltsOrLoops as halting
use Rattle.mh_tables.proofs.laws.halts_or_loops.Goals as goal

pub returns : goal.returns
returns c = halting.halts_or_loops
