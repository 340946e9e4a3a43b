use Rattle.std.proofs.Common.{rules}
use Rattle.mh_reach_rests.proofs.conclusions.reduces.Goals as goal

pub returns-then-production-path : goal.returns-then-production-path
returns-then-production-path c = search rules

pub returns-else-production-path : goal.returns-else-production-path
returns-else-production-path c = search rules
