use Rattle.std.proofs.Common.{inl, inr, ap, rules}
use Rattle.mh_report.proofs.HasFarthestDot.{so_far_more, so_far_all}
use Rattle.mh_report.proofs.lines.farthest.Goals as goal
use Rattle.mh_report.proofs.lines.farthest.Goals.{then-best-item, else-best-item}

pub loop-item-preserved : goal.loop-item-preserved
loop-item-preserved _ c =
    elim c.if-best-item.branch [
      | then-best-item w ↦ so_far_more c.args.items.now c.loop-item.item-index c.item-item.result c.loop-item.best.now c.if-best-item.best.now c.loop-item.invariant c.loop-item-test.true c.item-item.is (inl (ap (λ b. b.now) w.best-is, w.if-best-item.true))
      | else-best-item w ↦ so_far_more c.args.items.now c.loop-item.item-index c.item-item.result c.loop-item.best.now c.if-best-item.best.now c.loop-item.invariant c.loop-item-test.true c.item-item.is (inr (ap (λ b. b.now) w.best-is, w.if-best-item.false))
    ]

pub returns : goal.returns
returns _ c = so_far_all c.args.items.now c.loop-item.item-index c.loop-item.best.now c.loop-item.invariant (search rules)
