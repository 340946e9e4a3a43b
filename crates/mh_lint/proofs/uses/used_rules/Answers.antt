use Rattle.std.proofs.Common.{◌≡◌, ap, arith, length}
use Rattle.mh_lint.proofs.UsedRules.{all_rules, instance_found, next_rule, no_rules}
use Rattle.mh_lint.proofs.uses.used_rules.Goals as goal

pub loop-rule-init : goal.loop-rule-init
loop-rule-init c = no_rules c.args.joined.now c.args.expanded.now c.in_ok-used.used.items c.in_ok-used.ensures.items

pub loop-rule-preserved : goal.loop-rule-preserved
loop-rule-preserved c =
    let same = c.as_slice-rule-items.ensures in
    next_rule c.args.joined.now c.args.expanded.now c.loop-rule.rule-index c.rule-item.result c.has_instance.result c.loop-rule.used.items c.push.new.self.items (rw same at c.loop-rule-test.true) (rw same at c.rule-item.is) c.loop-rule.invariant
    (instance_found c.args.expanded.now c.in_ok-found.found.keys c.rule-item.result c.has_instance.result c.in_ok-found.ensures c.has_instance.ensures) c.in_ok-push.ensures.items

pub returns : goal.returns
returns c =
    let whole : c.loop-rule.rule-index ≡ length c.args.joined.now.rules = (let a = c.loop-rule-test.false in let b = c.loop-rule.auto.rule-index-end in let d = ap length c.as_slice-rule-items.ensures in omega (arith, a, b, d)) in
    all_rules c.args.joined.now c.args.expanded.now c.loop-rule.rule-index c.loop-rule.used.items whole c.loop-rule.invariant
