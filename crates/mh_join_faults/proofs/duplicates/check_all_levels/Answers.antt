use Rattle.std.proofs.Common.{◌+◌, arith}
use Rattle.mh_join_names.specs.Faults.{levels_in_file}
use Rattle.mh_join_names.specs.code.SymbolTables.{meanings_in}
use Rattle.mh_join_names.proofs.ReportsFirst.{finds_more_at, finds_err_at}
use Rattle.mh_join_faults.proofs.duplicates.check_all_levels.Goals as goal

pub loop-at-preserved : goal.loop-at-preserved
loop-at-preserved c = finds_more_at (levels_in_file (meanings_in c.args.names.now)) c.args.modules.now 1 c.loop-at.at (c.loop-at.at + 1) c.index-modules-at.result c.loop-at-test.true c.index-modules-at.is (omega arith) c.loop-at.invariant (rw c.as_slice.ensures at c.in_default.ensures)

pub returns-in-Err : goal.returns-in-Err
returns-in-Err c = finds_err_at (levels_in_file (meanings_in c.args.names.now)) c.args.modules.now 1 c.loop-at.at (c.loop-at.at + 1) c.index-modules-at.result c.loop-at-test.true c.index-modules-at.is (omega arith) c.loop-at.invariant c.in-Err.fault (rw c.as_slice.ensures at c.in-Err.ensures)
