use Rattle.std.proofs.Common.{rules}
use Rattle.mh_resolve_settle.proofs.levels.compare.Goals as goal

pub returns-in-Left : goal.returns-in-Left
returns-in-Left c = search rules

pub returns-in-Nonassoc : goal.returns-in-Nonassoc
returns-in-Nonassoc c = search rules
