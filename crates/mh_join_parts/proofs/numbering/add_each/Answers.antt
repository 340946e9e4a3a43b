use Rattle.std.proofs.Common.{ℕ, ◌∷◌, [], Option, Some, None, ap, subst, ◌∙◌, arith}
use Rattle.std.specs.Prelude.{◌||◌, if◌then◌else◌}
use Rattle.std.specs.List.{list_any}
use Rattle.mh_join_names.specs.Names.{same}
use Rattle.mh_join_names.specs.code.Numbering.{outline_by, outline_in, InsertsRules}
use Rattle.mh_join_parts.proofs.InsertsRules.{InsertsRules-none, InsertsRules-more, IsOwner-in}
use Rattle.mh_join_parts.proofs.numbering.add_each.Goals as goal

pub loop-rule-init : goal.loop-rule-init
loop-rule-init c = InsertsRules-none c.args.numbering.now c.requires.numbered

pub add_rule-requires-clause-owner : goal.add_rule-requires-clause-owner
add_rule-requires-clause-owner c = rw c.owner_in.ensures (IsOwner-in c.loop-rule.numbering _ c.args.file (omega (arith, c.requires.owner, c.loop-rule.invariant.owners)))

pub loop-rule-preserved : goal.loop-rule-preserved
loop-rule-preserved c =
    let item = c.rule-item.result in let starts = c.args.starts.now.keys in
    InsertsRules-more (outline_in starts c.args.file c.args.rules.now) c.args.numbering.now c.loop-rule.numbering c.add_rule.new.numbering c.args.rules.now c.loop-rule.rule-index item c.loop-rule-test.true c.rule-item.is c.loop-rule.invariant
    (subst (λ (o : Option ℕ). InsertsRules c.loop-rule.numbering c.add_rule.new.numbering (outline_by o item ∷ []))
    (c.owner_in.ensures ∙ ap (λ b. if (list_any (same item.name) starts || b) then None else Some c.args.file) (c.requires.marked item.name)) c.in_ok-add_rule.ensures)
