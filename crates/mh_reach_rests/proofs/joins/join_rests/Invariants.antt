use Rattle.mh_facts.specs.code.Queues.{QueueGains}
use Rattle.mh_facts.proofs.QueueGains.{First}
use Rattle.mh_reach_rests.specs.code.RestRules.{FollowsBoth}
use Rattle.mh_reach_rests.proofs.joins.join_rests.Given as goal

abbrev pub invariant-loop-rest : goal.invariant-loop-rest
invariant-loop-rest l = QueueGains (First (FollowsBoth l.table l.classes l.goto) l.rests l.rest-index) l.fn.queue.buckets.items l.queue.buckets.items
