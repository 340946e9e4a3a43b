use Rattle.std.proofs.Common.{rules}
use Rattle.mh_join_names.proofs.names.SymbolTables.is_visible.Goals as goal

pub returns-then-file-ne0 : goal.returns-then-file-ne0
returns-then-file-ne0 c = search rules

pub returns-else-file-ne0 : goal.returns-else-file-ne0
returns-else-file-ne0 c = search rules
