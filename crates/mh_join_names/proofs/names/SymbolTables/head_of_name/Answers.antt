use Rattle.std.proofs.Common.{rules}
use Rattle.mh_join_names.proofs.names.SymbolTables.head_of_name.Goals as goal

pub returns-in-Some : goal.returns-in-Some
returns-in-Some c = search rules

pub returns-in-Some-visible_head : goal.returns-in-Some-visible_head
returns-in-Some-visible_head c = search rules
