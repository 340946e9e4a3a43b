use Rattle.mh_reach_words.proofs.QueueDraws.{drawn_none, drawn_more, drawn_all}
use Rattle.mh_reach_spots.specs.code.SpotLevels.{IsReachedAlready}
use Rattle.mh_reach_spots.proofs.levels.take_all.Goals as goal

pub items-init : goal.items-init
items-init c = rw c.new-all.ensures.items (drawn_none (IsReachedAlready c.args.spots.now.spots) c.args.queue.now.buckets.items c.args.cost)

pub returns-in-None : goal.returns-in-None
returns-in-None c = drawn_all (IsReachedAlready c.args.spots.now.spots) c.args.queue.now.buckets.items c.items.queue.buckets.items c.take.new.queue.buckets.items c.args.cost c.items.all.items c.items.invariant (rw c.in-None.is at c.take.ensures)

pub items-preserved : goal.items-preserved
items-preserved c = drawn_more (IsReachedAlready c.args.spots.now.spots) c.args.queue.now.buckets.items c.items.queue.buckets.items c.take.new.queue.buckets.items c.args.cost c.in-Some.coming c.items.all.items c.keep_coming.new.all.items c.items.invariant (rw c.in-Some.is at c.take.ensures) c.in_ok-keep_coming-in-Some.ensures
