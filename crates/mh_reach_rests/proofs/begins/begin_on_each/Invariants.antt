use Rattle.mh_facts.specs.code.Queues.{QueueGains}
use Rattle.mh_facts.proofs.QueueGains.{First}
use Rattle.mh_reach_rests.specs.code.RestRules.{IsEndWordOn}
use Rattle.mh_reach_rests.proofs.begins.begin_on_each.Given as goal

abbrev pub invariant-loop-token : goal.invariant-loop-token
invariant-loop-token l = QueueGains (First (IsEndWordOn l.table l.classes l.state) l.tokens l.token-index) l.fn.queue.buckets.items l.queue.buckets.items
