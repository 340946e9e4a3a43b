use Rattle.mh_facts.specs.code.Queues.{Below, QueueGains}
use Rattle.mh_reach_rests.specs.code.RestRules.{IsEndWordOn}
use Rattle.mh_reach_rests.proofs.begins.begin_in.Given as goal

abbrev pub invariant-loop-token : goal.invariant-loop-token
invariant-loop-token l = QueueGains (Below (IsEndWordOn l.table l.classes l.state) l.token) l.fn.queue.buckets.items l.queue.buckets.items
