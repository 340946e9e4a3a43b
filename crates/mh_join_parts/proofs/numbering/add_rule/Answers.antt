use Rattle.std.proofs.Common.{refl, sym, ap, ◌∙◌}
use Rattle.std.specs.Prelude.{not, is_some}
use Rattle.mh_join_names.specs.code.Numbering.{outline_by}
use Rattle.mh_join_parts.proofs.InsertsRules.{none_from, InsertsRules-new, InsertsRules-known}
use Rattle.mh_join_parts.proofs.numbering.add_rule.Goals as goal

pub returns-in_ok-push : goal.returns-in_ok-push
returns-in_ok-push c =
    InsertsRules-new c.args.numbering.now c.add_number.new.numbering (record { public = c.add_number.new.numbering.public; own = c.add_number.new.numbering.own; rules = c.push.new.self }) (outline_by c.args.owner c.args.rule.now) c.requires.numbered
    (sym c.number_of.ensures ∙ none_from c.number_of.result (c.is_none.ensures ∙ ap not c.if-is_none.true))
    (rw c.rule_count-number.ensures at c.in_ok-add_number.ensures)
    (rw (c.in_ok-clone.ensures.cases, c.len.ensures) at c.in_ok-push.ensures.items) refl refl

pub returns-else-is_none : goal.returns-else-is_none
returns-else-is_none c = InsertsRules-known c.args.numbering.now (outline_by c.args.owner c.args.rule.now) c.requires.numbered (ap is_some (sym c.number_of.ensures) ∙ c.if-is_none.ensures)
