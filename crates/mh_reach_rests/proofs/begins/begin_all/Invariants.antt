use Rattle.std.proofs.Common.{[]}
use Rattle.mh_facts.specs.code.Queues.{Below, QueueGains}
use Rattle.mh_reach_rests.specs.code.RestRules.{IsEndWord}
use Rattle.mh_reach_rests.proofs.begins.begin_all.Given as goal

abbrev pub invariant-loop-state : goal.invariant-loop-state
invariant-loop-state l = QueueGains (Below (IsEndWord l.table l.classes) l.state) [] l.queue.buckets.items
