use Rattle.mh_tables_core.proofs.OneCatalogue.{catalogue_once}
use Rattle.mh_tables_core.proofs.table.Table.one_catalogue.Goals as goal

pub returns : goal.returns
returns c = catalogue_once c.args.self.now
