use Rattle.std.proofs.Common.{rules}
use Rattle.mh_resolve_settle.proofs.cells.lower_of.Goals as goal

pub returns-then-production-lowest : goal.returns-then-production-lowest
returns-then-production-lowest c = search rules

pub returns-else-production-lowest : goal.returns-else-production-lowest
returns-else-production-lowest c = search rules
