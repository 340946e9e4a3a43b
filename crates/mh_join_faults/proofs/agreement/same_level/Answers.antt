use Rattle.std.proofs.Common.{rules}
use Rattle.mh_join_faults.proofs.agreement.same_level.Goals as goal

pub returns-then-first-level : goal.returns-then-first-level
returns-then-first-level c = search rules

pub returns-else-first-level : goal.returns-else-first-level
returns-else-first-level c = search rules
