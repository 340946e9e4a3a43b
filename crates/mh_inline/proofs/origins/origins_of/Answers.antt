use Rattle.std.proofs.Common.{sym, ◌∙◌, arith}
use Rattle.mh_inline.proofs.OriginOrder.{AreOriginsBelow-inline, AreOrigins-all}
use Rattle.mh_inline.proofs.origins.origins_of.Goals as goal
use Rattle.mh_inline.proofs.origins.origins_of.Goals.{then-not-is_inline+in_ok-add_origins, else-not-is_inline}

pub loop-number-preserved : goal.loop-number-preserved
loop-number-preserved c =
    elim c.if-not-is_inline.branch [
      | then-not-is_inline+in_ok-add_origins w ↦ rw w.origins-is w.in_ok-add_origins.ensures
      | else-not-is_inline w ↦ rw w.origins-is (AreOriginsBelow-inline c.args.expanded.now.instances c.loop-number.number c.loop-number.origins.keys (sym c.is_inline.ensures ∙ w.if-not-is_inline.false) c.loop-number.invariant)
    ]

pub returns : goal.returns
returns c = rw c.in_ok-in_order.ensures (AreOrigins-all c.args.expanded.now.instances c.loop-number.number c.loop-number.origins.keys (omega (arith, c.loop-number-test.false, c.len-number-end.ensures)) c.loop-number.invariant)
