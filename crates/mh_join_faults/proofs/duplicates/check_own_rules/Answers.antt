use Rattle.mh_join_names.specs.code.SymbolTables.{is_public_in}
use Rattle.mh_join_faults.proofs.Repeats.{own_more, own_err}
use Rattle.mh_join_faults.proofs.duplicates.check_own_rules.Goals as goal

pub loop-rule-preserved : goal.loop-rule-preserved
loop-rule-preserved c = own_more (is_public_in c.args.names.now c.args.marked.now) c.loop-rule.seen c.put_own.new.seen c.args.rules.now c.loop-rule.rule-index c.rule-item.result c.loop-rule-test.true c.rule-item.is c.loop-rule.invariant c.in_default.ensures

pub returns-in-Err : goal.returns-in-Err
returns-in-Err c = own_err (is_public_in c.args.names.now c.args.marked.now) c.loop-rule.seen c.put_own.new.seen c.args.rules.now c.loop-rule.rule-index c.rule-item.result c.loop-rule-test.true c.rule-item.is c.loop-rule.invariant c.in-Err.fault c.in-Err.ensures
