use Rattle.std.proofs.Common.{rules}
use Rattle.mh_join_names.proofs.names.SymbolTables.may_follow_prec.Goals as goal

pub returns-then-contains : goal.returns-then-contains
returns-then-contains c = search rules

pub returns-else-contains : goal.returns-else-contains
returns-else-contains c = search rules
