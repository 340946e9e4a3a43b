use Rattle.std.proofs.Common.{get_or, set, ap, ◌∙◌, arith}
use Rattle.mh_inline_unfold.proofs.ChangedUnfoldings.{each_more}
use Rattle.mh_inline_unfold.specs.Unfoldings.{with_own_prec}
use Rattle.mh_inline_unfold.proofs.choices.own_each.Goals as goal

pub loop-choice-preserved : goal.loop-choice-preserved
loop-choice-preserved c =
    let y = get_or c.loop-choice.all c.loop-choice.choice-index c.choice-item.result in
    ap (λ p. set c.loop-choice.all c.loop-choice.choice-index (record { rhs = y.rhs; prec = p })) c.rightmost_prec-choice.ensures ∙
    each_more (with_own_prec c.args.prec) c.args.all.now c.loop-choice.all c.loop-choice.choice-index c.choice-item.result (omega arith) c.loop-choice-test.true c.loop-choice.invariant
