use Rattle.std.proofs.Common.{length}
use Rattle.mh_facts.specs.code.Queues.{row_of}
use Rattle.mh_reach_words.proofs.QueueDraws.{Thinned}
use Rattle.mh_reach_spots.specs.code.SpotLevels.{IsReachedAlready}
use Rattle.mh_reach_spots.proofs.levels.next_coming.Given as goal

abbrev pub invariant-items : goal.invariant-items
invariant-items l = Thinned (IsReachedAlready l.spots.spots) l.fn.queue.buckets.items l.queue.buckets.items

abbrev pub decreases-items : goal.decreases-items
decreases-items l = length (row_of l.queue.buckets.items l.cost)
