use Rattle.std.proofs.Common.{[]}
use Rattle.mh_rules.specs.declared.modules.Rule.{Rule}
use Rattle.mh_join_names.specs.Faults.{repeats}
use Rattle.mh_join_names.proofs.ReportsFirst.{finds_more, finds_err}
use Rattle.mh_join_faults.proofs.duplicates.check_formals.Goals as goal

pub loop-rule-preserved : goal.loop-rule-preserved
loop-rule-preserved c = finds_more (λ (r : Rule). repeats [] r.formals) c.args.rules.now c.loop-rule.rule-index c.rule-item.result c.loop-rule-test.true c.rule-item.is c.loop-rule.invariant (rw c.as_slice.ensures at c.in_default.ensures)

pub returns-in-Err : goal.returns-in-Err
returns-in-Err c = finds_err (λ (r : Rule). repeats [] r.formals) c.args.rules.now c.loop-rule.rule-index c.rule-item.result c.loop-rule-test.true c.rule-item.is c.loop-rule.invariant c.in-Err.fault (rw c.as_slice.ensures at c.in-Err.ensures)
