use Rattle.std.proofs.Common.{rules}
use Rattle.mh_resolve_settle.proofs.row.all_fit.Goals as goal

pub returns : goal.returns
returns c = search rules
