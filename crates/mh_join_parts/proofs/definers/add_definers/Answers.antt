use Rattle.std.proofs.Common.{◌+◌, take}
use Rattle.std.specs.List.{list_any}
use Rattle.mh_rules.specs.declared.modules.Rule.{Rule}
use Rattle.mh_grammar.specs.Text.{Text}
use Rattle.mh_join_names.specs.Names.{same}
use Rattle.mh_join_names.proofs.Lists.{any_more}
use Rattle.mh_join_parts.proofs.AddsDefiningFile.{AddsDefiningFile-none, AddsDefiningFile-both}
use Rattle.mh_join_parts.proofs.definers.add_definers.Goals as goal

pub loop-rule-init : goal.loop-rule-init
loop-rule-init c = AddsDefiningFile-none c.args.definers.now c.args.file

pub loop-rule-preserved : goal.loop-rule-preserved
loop-rule-preserved c =
    let rules = c.args.rules.now in let i = c.loop-rule.rule-index in
    AddsDefiningFile-both c.args.definers.now c.loop-rule.definers c.add_definer.new.definers c.args.file
    (λ (x : Text). list_any (λ (r : Rule). same x r.name) (take i rules)) (λ (x : Text). same x c.rule-item.result.name) (λ (x : Text). list_any (λ (r : Rule). same x r.name) (take (i + 1) rules))
    (λ x. any_more (λ (r : Rule). same x r.name) rules i c.rule-item.result c.loop-rule-test.true c.rule-item.is) c.loop-rule.invariant c.in_ok-add_definer.ensures
