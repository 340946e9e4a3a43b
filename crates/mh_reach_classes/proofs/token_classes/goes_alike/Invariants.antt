use Rattle.mh_reach_classes.specs.code.ClassRows.{TreatsAllAlike}
use Rattle.mh_reach_classes.proofs.token_classes.goes_alike.Given as goal

abbrev pub invariant-loop-token : goal.invariant-loop-token
invariant-loop-token l = TreatsAllAlike l.table l.classes l.reduction l.token
