use Rattle.std.proofs.Common.{rules}
use Rattle.mh_join_names.proofs.names.SymbolTables.is_elsewhere.Goals as goal

pub returns-in-Some-One : goal.returns-in-Some-One
returns-in-Some-One c = search rules
