use Rattle.mh_join_names.specs.Faults.{meant_by, undefined_in_alternative}
use Rattle.mh_join_names.specs.code.SymbolTables.{meanings_in, formals_in}
use Rattle.mh_join_names.proofs.ReportsFirst.{finds_more, finds_err}
use Rattle.mh_join_faults.proofs.undefined.check_alternatives.Goals as goal

pub loop-alternative-preserved : goal.loop-alternative-preserved
loop-alternative-preserved c = finds_more (undefined_in_alternative (meanings_in c.args.names.now).aliased (meant_by (meanings_in c.args.names.now) c.args.file (formals_in c.args.formals.now))) c.args.alternatives.now c.loop-alternative.alternative-index c.alternative-item.result c.loop-alternative-test.true c.alternative-item.is c.loop-alternative.invariant c.in_default.ensures

pub returns-in-Err : goal.returns-in-Err
returns-in-Err c = finds_err (undefined_in_alternative (meanings_in c.args.names.now).aliased (meant_by (meanings_in c.args.names.now) c.args.file (formals_in c.args.formals.now))) c.args.alternatives.now c.loop-alternative.alternative-index c.alternative-item.result c.loop-alternative-test.true c.alternative-item.is c.loop-alternative.invariant c.in-Err.fault c.in-Err.ensures
