use Rattle.mh_rules.specs.declared.modules.Alternative.{Alternative}
use Rattle.mh_join_names.specs.Faults.{unlevelled}
use Rattle.mh_join_names.specs.code.SymbolTables.{meanings_in}
use Rattle.mh_join_names.proofs.ReportsFirst.{finds_more, finds_err}
use Rattle.mh_join_faults.proofs.errors.check_rule_precs.Goals as goal

pub loop-alternative-preserved : goal.loop-alternative-preserved
loop-alternative-preserved c = finds_more (λ (a : Alternative). unlevelled (meanings_in c.args.names.now) a.prec) c.as_slice-alternative-items.result.now c.loop-alternative.alternative-index c.alternative-item.result c.loop-alternative-test.true c.alternative-item.is c.loop-alternative.invariant c.in_default.ensures

pub returns-in-Err : goal.returns-in-Err
returns-in-Err c = rw c.as_slice-alternative-items.ensures at (finds_err (λ (a : Alternative). unlevelled (meanings_in c.args.names.now) a.prec) c.as_slice-alternative-items.result.now c.loop-alternative.alternative-index c.alternative-item.result c.loop-alternative-test.true c.alternative-item.is c.loop-alternative.invariant c.in-Err.fault c.in-Err.ensures)
