use Rattle.std.proofs.Common.{length}
use Rattle.mh_facts.specs.code.Queues.{row_of}
use Rattle.mh_reach_words.specs.code.QueueDraws.{DrawsSome}
use Rattle.mh_reach_rests.specs.code.RestLevels.{IsDone}
use Rattle.mh_reach_rests.proofs.settling.all_new.Given as goal

abbrev pub invariant-items : goal.invariant-items
invariant-items l = DrawsSome (IsDone l.settled) l.fn.queue.buckets.items l.queue.buckets.items l.cost l.all.items

abbrev pub decreases-items : goal.decreases-items
decreases-items l = length (row_of l.queue.buckets.items l.cost)
