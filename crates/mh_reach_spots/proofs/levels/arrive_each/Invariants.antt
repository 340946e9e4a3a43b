use Rattle.std.proofs.Common.{drop}
use Rattle.mh_reach_spots.specs.code.SpotLevels.{InLevel}
use Rattle.mh_reach_spots.proofs.levels.arrive_each.Given as goal

abbrev pub invariant-loop-place : goal.invariant-loop-place
invariant-loop-place l = InLevel l.table l.classes l.gotos l.second.spots.book l.second.spots.spots l.second.queue.buckets.items l.level.cost (drop l.place l.level.comings.now)
