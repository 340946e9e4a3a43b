use Rattle.std.proofs.Common.{◌≡◌, None}
use Rattle.mh_reach_words.proofs.QueueDraws.{draws_none, draws_one, drop_done}
use Rattle.mh_reach_rests.specs.code.RestLevels.{IsDone}
use Rattle.mh_reach_rests.specs.code.SettledWords.{settled_at}
use Rattle.mh_reach_rests.proofs.WordsOfSettled.{none_there, some_there}
use Rattle.mh_reach_rests.proofs.settling.next_new.Goals as goal

pub returns-in-None : goal.returns-in-None
returns-in-None c = draws_none (IsDone c.args.settled.now) c.args.queue.now.buckets.items c.items.queue.buckets.items c.take.new.queue.buckets.items c.args.cost c.items.invariant c.in-None.ensures

pub returns-then-is_none : goal.returns-then-is_none
returns-then-is_none c = draws_one (IsDone c.args.settled.now) (λ o. settled_at c.args.settled.now o.sought ≡ None) c.args.queue.now.buckets.items c.items.queue.buckets.items c.take.new.queue.buckets.items c.args.cost c.in-Some.item c.items.invariant (rw c.in-Some.is at c.take.ensures) (none_there _ c.word_of.ensures c.if-is_none.ensures)

pub items-preserved : goal.items-preserved
items-preserved c = drop_done (IsDone c.args.settled.now) c.args.queue.now.buckets.items c.items.queue.buckets.items c.take.new.queue.buckets.items c.args.cost c.in-Some.item c.items.invariant (rw c.in-Some.is at c.take.ensures) (some_there _ c.word_of.ensures c.if-is_none.ensures)
