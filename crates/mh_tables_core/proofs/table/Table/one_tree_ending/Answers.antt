use Rattle.mh_tables_core.proofs.OneTreeEnding.{one_tree_ending as same}
use Rattle.mh_tables_core.proofs.table.Table.one_tree_ending.Goals as goal

pub returns : goal.returns
returns c = same c.args.self.now
