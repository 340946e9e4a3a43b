use Rattle.std.proofs.Common.{ap, ◌∙◌}
use Rattle.std.specs.Prelude.{◌&&◌, ◌||◌}
use Rattle.mh_rules.specs.declared.modules.Rule.{Rule}
use Rattle.mh_join_names.specs.Names.{same}
use Rattle.mh_join_names.proofs.Lists.{any_more}
use Rattle.mh_join_names.proofs.publics.marked_public.Goals as goal

pub loop-rule-preserved : goal.loop-rule-preserved
loop-rule-preserved c = λ x. c.in_ok-mark_public.ensures x ∙ ap (λ b. b || (c.rule-item.result.public && same x c.rule-item.result.name)) (c.loop-rule.invariant x)
    ∙ any_more (λ (r : Rule). r.public && same x r.name) c.args.rules.now c.loop-rule.rule-index c.rule-item.result c.loop-rule-test.true c.rule-item.is
