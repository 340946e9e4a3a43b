use Rattle.mh_facts.specs.code.Queues.{QueueGains}
use Rattle.mh_facts.proofs.QueueGains.{First}
use Rattle.mh_reach_rests.specs.code.RestRules.{FollowsBoth}
use Rattle.mh_reach_rests.proofs.joins.join_gotos.Given as goal

abbrev pub invariant-loop-goto : goal.invariant-loop-goto
invariant-loop-goto l = QueueGains (First (λ goto. FollowsBoth l.table l.classes goto l.rest) l.gotos l.goto-index) l.fn.queue.buckets.items l.queue.buckets.items
