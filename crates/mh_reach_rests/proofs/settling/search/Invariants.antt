use Rattle.mh_reach_rests.specs.code.RestLevels.{BeforeRestLevel}
use Rattle.mh_reach_rests.proofs.settling.search.Given as goal

abbrev pub invariant-loop-cost : goal.invariant-loop-cost
invariant-loop-cost l = BeforeRestLevel l.table l.classes l.found l.cost
