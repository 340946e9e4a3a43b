use Rattle.mh_join_names.specs.Faults.{errors_in_alternative}
use Rattle.mh_join_names.proofs.ReportsFirst.{finds_more, finds_err}
use Rattle.mh_join_faults.proofs.errors.check_rule.Goals as goal

pub loop-alternative-preserved : goal.loop-alternative-preserved
loop-alternative-preserved c = finds_more (errors_in_alternative) c.as_slice-alternative-items.result.now c.loop-alternative.alternative-index c.alternative-item.result c.loop-alternative-test.true c.alternative-item.is c.loop-alternative.invariant (rw c.as_slice.ensures at c.in_default.ensures)

pub returns-in-Err : goal.returns-in-Err
returns-in-Err c = rw c.as_slice-alternative-items.ensures at (finds_err (errors_in_alternative) c.as_slice-alternative-items.result.now c.loop-alternative.alternative-index c.alternative-item.result c.loop-alternative-test.true c.alternative-item.is c.loop-alternative.invariant c.in-Err.fault (rw c.as_slice.ensures at c.in-Err.ensures))
