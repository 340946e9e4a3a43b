use Rattle.std.proofs.Common.{ℕ, ◌∷◌, [], Option, Some, None, ap, subst, ◌∙◌}
use Rattle.std.specs.Prelude.{◌||◌, if◌then◌else◌}
use Rattle.std.specs.List.{list_any}
use Rattle.mh_join_parts.specs.code.CanJoin.{AddsAlternatives, unresolved_in_rule}
use Rattle.std.proofs.lemmas.List.{take_all}
use Rattle.mh_join_names.specs.Names.{same, owner_in}
use Rattle.mh_join_names.specs.code.SymbolTables.{meanings_in}
use Rattle.mh_join_names.proofs.Resolved.{nil_at}
use Rattle.mh_join_parts.proofs.AddsAlternatives.{AddsRules-none, AddsRules-more}
use Rattle.mh_join_parts.proofs.building.add_rules.Goals as goal

pub loop-rule-init : goal.loop-rule-init
loop-rule-init c = AddsRules-none (meanings_in c.args.names.now) (owner_in c.args.names.now.starts.keys c.args.file c.args.rules.now) c.args.file c.args.joined.now

pub loop-rule-preserved : goal.loop-rule-preserved
loop-rule-preserved c =
    let w = meanings_in c.args.names.now in let starts = c.args.names.now.starts.keys in let rules = c.args.rules.now in let item = c.rule-item.result in
    AddsRules-more w (owner_in starts c.args.file rules) c.args.file rules c.loop-rule.rule-index item c.args.joined.now c.loop-rule.joined c.add_rule.new.joined c.loop-rule.place c.in_ok-next.next c.loop-rule-test.true c.rule-item.is c.loop-rule.invariant
    (subst (λ (o : Option ℕ). AddsAlternatives w (record { file = c.args.file; owner = o; place = c.loop-rule.place; rule = item } ∷ []) c.loop-rule.joined c.add_rule.new.joined)
    (c.owner_in-owner.ensures ∙ ap (λ b. if (list_any (same item.name) starts || b) then None else Some c.args.file) (c.requires.marked item.name)) c.in_ok-add_rule.ensures)
    c.in_ok-next.ensures.next

pub add_rule-requires-clause-resolved : goal.add_rule-requires-clause-resolved
add_rule-requires-clause-resolved c = nil_at (unresolved_in_rule (meanings_in c.args.names.now) c.args.file) c.args.rules.now c.loop-rule.rule-index c.rule-item.result c.loop-rule-test.true c.rule-item.is c.requires.resolved

pub returns : goal.returns
returns c = rw (take_all c.loop-rule.rule-index c.args.rules.now c.loop-rule-test.false) at c.loop-rule.invariant.added
