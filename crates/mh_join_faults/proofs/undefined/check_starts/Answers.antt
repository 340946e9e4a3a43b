use Rattle.mh_join_names.specs.Faults.{undefined_start}
use Rattle.mh_join_names.specs.code.SymbolTables.{meanings_in}
use Rattle.mh_join_names.proofs.ReportsFirst.{finds_more, finds_err}
use Rattle.mh_join_faults.proofs.undefined.check_starts.Goals as goal

pub loop-start-preserved : goal.loop-start-preserved
loop-start-preserved c = finds_more (undefined_start (meanings_in c.args.names.now)) c.args.starts.now c.loop-start.start-index c.start-item.result c.loop-start-test.true c.start-item.is c.loop-start.invariant (rw c.contains_key.ensures at c.in_default.ensures)

pub returns-in-Err : goal.returns-in-Err
returns-in-Err c = finds_err (undefined_start (meanings_in c.args.names.now)) c.args.starts.now c.loop-start.start-index c.start-item.result c.loop-start-test.true c.start-item.is c.loop-start.invariant c.in-Err.fault (rw c.contains_key.ensures at c.in-Err.ensures)
