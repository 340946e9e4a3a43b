use Rattle.std.proofs.Common.{drop}
use Rattle.mh_reach_rests.specs.code.RestLevels.{InRestLevel}
use Rattle.mh_reach_rests.proofs.settling.settle_each.Given as goal

abbrev pub invariant-loop-place : goal.invariant-loop-place
invariant-loop-place l = InRestLevel l.table l.classes l.found l.level.cost (drop l.place l.level.items.now)
