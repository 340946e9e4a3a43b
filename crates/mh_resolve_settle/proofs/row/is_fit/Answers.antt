use Rattle.std.proofs.Common.{rules}
use Rattle.mh_resolve_settle.proofs.row.is_fit.Goals as goal

pub returns-in-Reduce : goal.returns-in-Reduce
returns-in-Reduce c = search rules

pub returns-in-Shift : goal.returns-in-Shift
returns-in-Shift c = search rules
