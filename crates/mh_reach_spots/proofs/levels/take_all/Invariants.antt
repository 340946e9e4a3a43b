use Rattle.std.proofs.Common.{length}
use Rattle.mh_facts.specs.code.Queues.{row_of}
use Rattle.mh_reach_spots.specs.code.SpotLevels.{TakesSomeUnreached}
use Rattle.mh_reach_spots.proofs.levels.take_all.Given as goal

abbrev pub invariant-items : goal.invariant-items
invariant-items l = TakesSomeUnreached l.spots.spots l.fn.queue.buckets.items l.queue.buckets.items l.cost l.all.items

abbrev pub decreases-items : goal.decreases-items
decreases-items l = length (row_of l.queue.buckets.items l.cost)
