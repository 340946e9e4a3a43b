use Rattle.std.proofs.Common.{Some}
use Rattle.std.proofs.lemmas.List.{take_all}
use Rattle.mh_join_parts.specs.code.CanJoin.{unresolved_in_rule}
use Rattle.mh_join_names.specs.code.SymbolTables.{meanings_in}
use Rattle.mh_join_names.proofs.Resolved.{nil_at}
use Rattle.mh_join_parts.proofs.AddsAlternatives.{AddsRules-none, AddsRules-more}
use Rattle.mh_join_parts.proofs.building.add_prelude.Goals as goal

pub loop-rule-init : goal.loop-rule-init
loop-rule-init c = AddsRules-none (meanings_in c.args.names.now) (λ x. Some 0) 0 c.args.joined.now

pub loop-rule-preserved : goal.loop-rule-preserved
loop-rule-preserved c = AddsRules-more (meanings_in c.args.names.now) (λ x. Some 0) 0 c.args.rules.now c.loop-rule.rule-index c.rule-item.result c.args.joined.now c.loop-rule.joined c.add_rule.new.joined c.loop-rule.place c.in_ok-next.next c.loop-rule-test.true c.rule-item.is c.loop-rule.invariant c.in_ok-add_rule.ensures c.in_ok-next.ensures.next

pub add_rule-requires-clause-resolved : goal.add_rule-requires-clause-resolved
add_rule-requires-clause-resolved c = nil_at (unresolved_in_rule (meanings_in c.args.names.now) 0) c.args.rules.now c.loop-rule.rule-index c.rule-item.result c.loop-rule-test.true c.rule-item.is c.requires.resolved

pub returns : goal.returns
returns c = rw (take_all c.loop-rule.rule-index c.args.rules.now c.loop-rule-test.false) at c.loop-rule.invariant.added
