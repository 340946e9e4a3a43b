use Rattle.std.proofs.Common.{set, ap, ◌∙◌, arith}
use Rattle.mh_inline_unfold.specs.Unfoldings.{joined}
use Rattle.mh_inline_unfold.proofs.ChangedUnfoldings.{each_more}
use Rattle.mh_inline_unfold.proofs.choices.append_to_each.Goals as goal

pub loop-choice-preserved : goal.loop-choice-preserved
loop-choice-preserved c =
    ap (set c.loop-choice.all c.loop-choice.choice-index) c.in_ok-append_to.ensures ∙
    each_more (λ u. joined u c.args.other.now) c.args.all.now c.loop-choice.all c.loop-choice.choice-index c.choice-item.result (omega arith) c.loop-choice-test.true c.loop-choice.invariant
