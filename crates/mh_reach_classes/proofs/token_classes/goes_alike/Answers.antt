use Rattle.std.proofs.Common.{refl}
use Rattle.mh_reach_classes.proofs.TreatsAlike.{alike_more}
use Rattle.mh_reach_classes.proofs.token_classes.goes_alike.Goals as goal

pub loop-token-preserved : goal.loop-token-preserved
loop-token-preserved c = alike_more c.args.table.now c.args.classes.now c.args.reduction c.loop-token.token c.loop-token.invariant (c.if-not-is_alike.ensures refl)
