use Rattle.std.proofs.Common.{drop}
use Rattle.mh_reach_spots.specs.code.SpotLevels.{InTurn}
use Rattle.mh_reach_spots.proofs.Unreached.{unreached}
use Rattle.mh_reach_spots.proofs.levels.arrive_one.Given as goal

abbrev pub invariant-turns : goal.invariant-turns
invariant-turns l = InTurn l.table l.classes l.gotos l.second.spots.book l.second.spots.spots l.second.queue.buckets.items l.level.cost l.first.sentence (drop 1 l.level.comings.now)

abbrev pub decreases-turns : goal.decreases-turns
decreases-turns l = unreached l.second.spots.spots
