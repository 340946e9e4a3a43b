use Rattle.mh_tables_core.proofs.RefusalIsCut.{verdict_cut}
use Rattle.mh_tables_core.proofs.table.Table.refusal_is_cut.Goals as goal

pub returns : goal.returns
returns c = verdict_cut c.args.self.now
