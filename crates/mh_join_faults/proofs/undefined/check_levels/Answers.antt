use Rattle.mh_join_names.specs.Faults.{undefined_in_level}
use Rattle.mh_join_names.specs.code.SymbolTables.{meanings_in}
use Rattle.mh_join_names.proofs.ReportsFirst.{finds_more, finds_err}
use Rattle.mh_join_faults.proofs.undefined.check_levels.Goals as goal

pub loop-level-preserved : goal.loop-level-preserved
loop-level-preserved c = finds_more (undefined_in_level (meanings_in c.args.names.now)) c.args.levels.now c.loop-level.level-index c.level-item.result c.loop-level-test.true c.level-item.is c.loop-level.invariant c.in_default.ensures

pub returns-in-Err : goal.returns-in-Err
returns-in-Err c = finds_err (undefined_in_level (meanings_in c.args.names.now)) c.args.levels.now c.loop-level.level-index c.level-item.result c.loop-level-test.true c.level-item.is c.loop-level.invariant c.in-Err.fault c.in-Err.ensures
