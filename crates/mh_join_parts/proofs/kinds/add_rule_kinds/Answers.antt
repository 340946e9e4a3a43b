use Rattle.std.proofs.Common.{◌∷◌, []}
use Rattle.mh_rules.specs.declared.modules.Rule.{Rule}
use Rattle.mh_join_names.specs.declared.kinds.NameKind.TheVariants as kinds
use Rattle.mh_join_names.proofs.Lists.{InsertsNew-more}
use Rattle.mh_join_parts.proofs.kinds.add_rule_kinds.Goals as goal

pub loop-rule-preserved : goal.loop-rule-preserved
loop-rule-preserved c = InsertsNew-more (λ (r : Rule). (r.name, kinds.Rule) ∷ []) c.args.kinds.now c.loop-rule.kinds c.put_first.new.map c.args.rules.now c.loop-rule.rule-index c.rule-item.result c.loop-rule-test.true c.rule-item.is c.loop-rule.invariant c.in_ok-put_first.ensures
