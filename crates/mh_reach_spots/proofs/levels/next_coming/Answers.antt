use Rattle.std.proofs.Common.{◌≡◌, None}
use Rattle.mh_reach_words.proofs.QueueDraws.{draws_none, draws_one, drop_done}
use Rattle.mh_reach_spots.specs.code.Spots.{arrival_at}
use Rattle.mh_reach_spots.specs.code.SpotLevels.{IsReachedAlready}
use Rattle.mh_reach_spots.proofs.StepsShift.{none_there, some_there}
use Rattle.mh_reach_spots.proofs.levels.next_coming.Goals as goal

pub returns-in-None : goal.returns-in-None
returns-in-None c = draws_none (IsReachedAlready c.args.spots.now.spots) c.args.queue.now.buckets.items c.items.queue.buckets.items c.take.new.queue.buckets.items c.args.cost c.items.invariant c.in-None.ensures

pub returns-then-is_none : goal.returns-then-is_none
returns-then-is_none c = draws_one (IsReachedAlready c.args.spots.now.spots) (λ o. arrival_at c.args.spots.now.spots o.spot ≡ None) c.args.queue.now.buckets.items c.items.queue.buckets.items c.take.new.queue.buckets.items c.args.cost c.in-Some.coming c.items.invariant (rw c.in-Some.is at c.take.ensures) (none_there _ c.arrival_at.ensures c.if-is_none.ensures)

pub items-preserved : goal.items-preserved
items-preserved c = drop_done (IsReachedAlready c.args.spots.now.spots) c.args.queue.now.buckets.items c.items.queue.buckets.items c.take.new.queue.buckets.items c.args.cost c.in-Some.coming c.items.invariant (rw c.in-Some.is at c.take.ensures) (some_there _ c.arrival_at.ensures c.if-is_none.ensures)
