use Rattle.mh_facts.specs.code.Queues.{QueueGains}
use Rattle.mh_facts.specs.code.TokenClasses.{representatives_at}
use Rattle.mh_facts.proofs.QueueGains.{First}
use Rattle.mh_reach_rests.specs.code.RestRules.{IsGotoOf}
use Rattle.mh_reach_rests.proofs.conclusions.conclude_gotos_to.Given as goal

abbrev pub invariant-loop-next : goal.invariant-loop-next
invariant-loop-next l = QueueGains (First (IsGotoOf l.table l.classes l.path l.target) (representatives_at l.classes l.target) l.next-index) l.fn.queue.buckets.items l.queue.buckets.items
