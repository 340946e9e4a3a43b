use Rattle.mh_top_prepare.proofs.StagesToTable.{from_source, source_stops}
use Rattle.mh_top_prepare.proofs.prepared.prepare.Goals as goal

pub returns-in-Ok-clause-prepared : goal.returns-in-Ok-clause-prepared
returns-in-Ok-clause-prepared g c = from_source (g.F.Shelf.files c.args.shelf.now) c.args.front c.in-Ok.source c.prepare_from-prepared.result c.in-Ok.ensures.source c.prepare_from-prepared.ensures.prepared

pub returns-in-Err-clause-prepared : goal.returns-in-Err-clause-prepared
returns-in-Err-clause-prepared g c = source_stops (g.F.Shelf.files c.args.shelf.now) c.args.front c.in-Err.stop c.in-Err.ensures.source
