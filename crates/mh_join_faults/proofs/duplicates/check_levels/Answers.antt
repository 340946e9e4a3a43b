use Rattle.std.proofs.Common.{arith}
use Rattle.mh_join_names.specs.Faults.{levels_in_declaration}
use Rattle.mh_join_names.specs.code.SymbolTables.{meanings_in}
use Rattle.mh_join_names.proofs.ReportsFirst.{finds_more_at, finds_err_at}
use Rattle.mh_join_faults.proofs.duplicates.check_levels.Goals as goal

pub loop-rank-preserved : goal.loop-rank-preserved
loop-rank-preserved c = finds_more_at (levels_in_declaration (meanings_in c.args.names.now) c.args.file) c.args.levels.now 0 c.loop-rank.rank c.loop-rank.rank c.index-levels-rank.result c.loop-rank-test.true c.index-levels-rank.is (omega arith) c.loop-rank.invariant c.in_default.ensures

pub returns-in-Err : goal.returns-in-Err
returns-in-Err c = finds_err_at (levels_in_declaration (meanings_in c.args.names.now) c.args.file) c.args.levels.now 0 c.loop-rank.rank c.loop-rank.rank c.index-levels-rank.result c.loop-rank-test.true c.index-levels-rank.is (omega arith) c.loop-rank.invariant c.in-Err.fault c.in-Err.ensures
