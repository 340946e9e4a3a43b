use Rattle.mh_top_prepare.proofs.StagesToTable.{table_stops}
use Rattle.mh_top_prepare.proofs.prepared.prepare_from.Goals as goal

pub returns-in-Err-clause-prepared : goal.returns-in-Err-clause-prepared
returns-in-Err-clause-prepared g c = table_stops c.args.front c.args.source.now c.in-Err.stop c.in-Err.ensures.stage
