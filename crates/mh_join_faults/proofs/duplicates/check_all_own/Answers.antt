use Rattle.mh_join_names.specs.Faults.{own_in_file}
use Rattle.mh_join_names.specs.code.SymbolTables.{meanings_in}
use Rattle.mh_join_names.proofs.ReportsFirst.{finds_more, finds_err}
use Rattle.mh_join_faults.proofs.duplicates.check_all_own.Goals as goal

pub loop-file-preserved : goal.loop-file-preserved
loop-file-preserved c = finds_more (own_in_file (meanings_in c.args.names.now)) c.args.modules.now c.loop-file.file-index c.file-item.result c.loop-file-test.true c.file-item.is c.loop-file.invariant c.in_default.ensures

pub returns-in-Err : goal.returns-in-Err
returns-in-Err c = finds_err (own_in_file (meanings_in c.args.names.now)) c.args.modules.now c.loop-file.file-index c.file-item.result c.loop-file-test.true c.file-item.is c.loop-file.invariant c.in-Err.fault c.in-Err.ensures
