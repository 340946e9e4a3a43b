use Rattle.mh_tables_core.proofs.RefusalStays.{verdict_longer}
use Rattle.mh_tables_core.proofs.table.Table.refusal_stays.Goals as goal

pub returns : goal.returns
returns c = verdict_longer c.args.self.now
