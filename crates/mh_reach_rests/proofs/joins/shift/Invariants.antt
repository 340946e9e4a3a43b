use Rattle.mh_facts.specs.code.Queues.{QueueGains}
use Rattle.mh_facts.proofs.QueueGains.{First}
use Rattle.mh_reach_rests.specs.code.RestRules.{FollowsToken}
use Rattle.mh_reach_rests.proofs.joins.shift.Given as goal

abbrev pub invariant-loop-state : goal.invariant-loop-state
invariant-loop-state l = QueueGains (First (FollowsToken l.table l.classes l.rest.0 l.rest.1) l.sources l.state-index) l.fn.queue.buckets.items l.queue.buckets.items
