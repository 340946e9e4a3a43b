use Rattle.mh_join_names.specs.Faults.{unknown_string}
use Rattle.mh_join_names.specs.code.SymbolTables.{meanings_in}
use Rattle.mh_join_names.proofs.ReportsFirst.{finds_more, finds_err}
use Rattle.mh_join_faults.proofs.undefined.check_level.Goals as goal

pub loop-reference-preserved : goal.loop-reference-preserved
loop-reference-preserved c = finds_more (unknown_string (meanings_in c.args.names.now).aliased) c.as_slice-reference-items.result.now c.loop-reference.reference-index c.reference-item.result c.loop-reference-test.true c.reference-item.is c.loop-reference.invariant c.in_default.ensures

pub returns-in-Err : goal.returns-in-Err
returns-in-Err c = rw c.as_slice-reference-items.ensures at (finds_err (unknown_string (meanings_in c.args.names.now).aliased) c.as_slice-reference-items.result.now c.loop-reference.reference-index c.reference-item.result c.loop-reference-test.true c.reference-item.is c.loop-reference.invariant c.in-Err.fault c.in-Err.ensures)
