use Rattle.mh_join_names.specs.Faults.{meant_by, undefined_in_on_error}
use Rattle.mh_join_names.specs.code.SymbolTables.{meanings_in, formals_in}
use Rattle.mh_join_names.proofs.ReportsFirst.{finds_more, finds_err}
use Rattle.mh_join_faults.proofs.undefined.check_on_error.Goals as goal

pub loop-actuals-preserved : goal.loop-actuals-preserved
loop-actuals-preserved c = finds_more (undefined_in_on_error (meant_by (meanings_in c.args.names.now) c.args.file (formals_in c.args.none.now))) c.args.on_error.now c.loop-actuals.actuals-index c.actuals-item.result c.loop-actuals-test.true c.actuals-item.is c.loop-actuals.invariant (rw c.as_slice.ensures at c.in_default.ensures)

pub returns-in-Err : goal.returns-in-Err
returns-in-Err c = finds_err (undefined_in_on_error (meant_by (meanings_in c.args.names.now) c.args.file (formals_in c.args.none.now))) c.args.on_error.now c.loop-actuals.actuals-index c.actuals-item.result c.loop-actuals-test.true c.actuals-item.is c.loop-actuals.invariant c.in-Err.fault (rw c.as_slice.ensures at c.in-Err.ensures)
