use Rattle.mh_rules.specs.declared.modules.Rule.{Rule}
use Rattle.mh_join_names.specs.declared.kinds.NameKind.TheVariants as kinds
use Rattle.mh_join_names.specs.Faults.{other_kind}
use Rattle.mh_join_names.specs.code.SymbolTables.{meanings_in}
use Rattle.mh_join_names.proofs.ReportsFirst.{finds_more, finds_err}
use Rattle.mh_join_faults.proofs.duplicates.check_rule_kinds.Goals as goal

pub loop-rule-preserved : goal.loop-rule-preserved
loop-rule-preserved c = finds_more (λ (r : Rule). other_kind (meanings_in c.args.names.now) kinds.Rule r.name) c.args.rules.now c.loop-rule.rule-index c.rule-item.result c.loop-rule-test.true c.rule-item.is c.loop-rule.invariant c.in_default.ensures

pub returns-in-Err : goal.returns-in-Err
returns-in-Err c = finds_err (λ (r : Rule). other_kind (meanings_in c.args.names.now) kinds.Rule r.name) c.args.rules.now c.loop-rule.rule-index c.rule-item.result c.loop-rule-test.true c.rule-item.is c.loop-rule.invariant c.in-Err.fault c.in-Err.ensures
