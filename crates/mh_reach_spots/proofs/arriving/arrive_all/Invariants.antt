use Rattle.mh_reach_spots.specs.code.SpotLevels.{BeforeLevel}
use Rattle.mh_reach_spots.proofs.arriving.arrive_all.Given as goal

abbrev pub invariant-loop-cost : goal.invariant-loop-cost
invariant-loop-cost l = BeforeLevel l.table l.classes l.gotos l.second.spots.book l.second.spots.spots l.second.queue.buckets.items l.cost
