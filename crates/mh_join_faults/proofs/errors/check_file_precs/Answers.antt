use Rattle.mh_join_names.specs.Faults.{unlevelled_in_rule}
use Rattle.mh_join_names.specs.code.SymbolTables.{meanings_in}
use Rattle.mh_join_names.proofs.ReportsFirst.{finds_more, finds_err}
use Rattle.mh_join_faults.proofs.errors.check_file_precs.Goals as goal

pub loop-rule-preserved : goal.loop-rule-preserved
loop-rule-preserved c = finds_more (unlevelled_in_rule (meanings_in c.args.names.now)) c.args.rules.now c.loop-rule.rule-index c.rule-item.result c.loop-rule-test.true c.rule-item.is c.loop-rule.invariant c.in_default.ensures

pub returns-in-Err : goal.returns-in-Err
returns-in-Err c = finds_err (unlevelled_in_rule (meanings_in c.args.names.now)) c.args.rules.now c.loop-rule.rule-index c.rule-item.result c.loop-rule-test.true c.rule-item.is c.loop-rule.invariant c.in-Err.fault c.in-Err.ensures
