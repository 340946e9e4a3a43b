use Rattle.std.proofs.Common.{Some}
use Rattle.mh_join_names.specs.code.Numbering.{outline_by}
use Rattle.mh_join_parts.proofs.InsertsRules.{InsertsRules-none, InsertsRules-more}
use Rattle.mh_join_parts.proofs.numbering.add_prelude.Goals as goal

pub loop-rule-init : goal.loop-rule-init
loop-rule-init c = InsertsRules-none c.args.numbering.now c.requires.numbered

pub loop-rule-preserved : goal.loop-rule-preserved
loop-rule-preserved c =
    InsertsRules-more (outline_by (Some 0)) c.args.numbering.now c.loop-rule.numbering c.add_rule.new.numbering c.args.rules.now c.loop-rule.rule-index c.rule-item.result c.loop-rule-test.true c.rule-item.is c.loop-rule.invariant c.in_ok-add_rule.ensures
