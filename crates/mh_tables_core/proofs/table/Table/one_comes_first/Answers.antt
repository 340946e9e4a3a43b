use Rattle.mh_tables_core.proofs.OneCatalogue.{order_one, order_total}
use Rattle.mh_tables_core.proofs.table.Table.one_comes_first.Goals as goal

pub returns-clause-some : goal.returns-clause-some
returns-clause-some c = order_total c.args.self.now

pub returns-clause-one : goal.returns-clause-one
returns-clause-one c = order_one c.args.self.now
