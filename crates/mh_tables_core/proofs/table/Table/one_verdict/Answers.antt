use Rattle.mh_tables_core.specs.Run.{initial}
use Rattle.mh_tables_core.proofs.RunEnds.{ending_unique}
use Rattle.mh_tables_core.proofs.table.Table.one_verdict.Goals as goal

pub returns : goal.returns
returns c = λ start w a b one other. ending_unique c.args.self.now (initial start w) a b one other
