use Rattle.std.proofs.Common.{◌≤◌, arith, length, sym, ◌∙◌}
use Rattle.std.proofs.lemmas.List.{take_all}
use Rattle.mh_lint_faults.proofs.FirstMentions.{first_at, none_more, none_of}
use Rattle.mh_lint_faults.proofs.NumberTests.{is_number, not_number}
use Rattle.mh_lint_faults.proofs.definitions.definition_in.Goals as goal

pub returns-then-eq : goal.returns-then-eq
returns-then-eq c = first_at _ c.args.mentions.now c.loop-mention.mention-index c.mention-item.result c.loop-mention-test.true c.mention-item.is c.loop-mention.invariant (sym c.rule_at.ensures ∙ is_number c.rule_at.result c.args.number (sym c.eq.ensures ∙ c.if-eq.true))

pub loop-mention-preserved : goal.loop-mention-preserved
loop-mention-preserved c = none_more _ c.args.mentions.now c.loop-mention.mention-index c.mention-item.result c.loop-mention-test.true c.mention-item.is c.loop-mention.invariant (λ is. not_number c.rule_at.result c.args.number (sym c.eq.ensures ∙ c.if-eq.false) (c.rule_at.ensures ∙ is))

pub returns : goal.returns
returns c =
    let past : length c.args.mentions.now ≤ c.loop-mention.mention-index = (let a = c.loop-mention-test.false in omega (arith, a)) in
    none_of _ c.args.mentions.now (λ x there. c.loop-mention.invariant x (rw (take_all c.loop-mention.mention-index c.args.mentions.now past) there))
