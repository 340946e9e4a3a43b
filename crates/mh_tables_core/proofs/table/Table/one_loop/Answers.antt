use Rattle.mh_tables_core.proofs.OneLoop.{loop_unique as same}
use Rattle.mh_tables_core.proofs.table.Table.one_loop.Goals as goal

pub returns : goal.returns
returns c = same c.args.self.now
