use Rattle.mh_reach_words.proofs.QueueDraws.{drawn_all, drawn_more, drawn_none}
use Rattle.mh_reach_rests.specs.code.RestLevels.{IsDone}
use Rattle.mh_reach_rests.proofs.settling.all_new.Goals as goal

pub items-init : goal.items-init
items-init c = rw c.new-all.ensures.items (drawn_none (IsDone c.args.settled.now) c.args.queue.now.buckets.items c.args.cost)

pub returns-in-None : goal.returns-in-None
returns-in-None c = drawn_all (IsDone c.args.settled.now) c.args.queue.now.buckets.items c.items.queue.buckets.items c.take.new.queue.buckets.items c.args.cost c.items.all.items c.items.invariant (rw c.in-None.is at c.take.ensures)

pub items-preserved : goal.items-preserved
items-preserved c = drawn_more (IsDone c.args.settled.now) c.args.queue.now.buckets.items c.items.queue.buckets.items c.take.new.queue.buckets.items c.args.cost c.in-Some.item c.items.all.items c.keep_new.new.all.items c.items.invariant (rw c.in-Some.is at c.take.ensures) c.in_ok-keep_new-in-Some.ensures
