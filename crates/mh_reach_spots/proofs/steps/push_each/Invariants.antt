use Rattle.mh_facts.specs.code.Queues.{QueueGains}
use Rattle.mh_reach_spots.specs.code.SpotSteps.{StepsOn}
use Rattle.mh_facts.proofs.QueueGains.{First}
use Rattle.mh_reach_spots.proofs.steps.push_each.Given as goal

abbrev pub invariant-loop-next : goal.invariant-loop-next
invariant-loop-next l = QueueGains (First (StepsOn l.cost l.state l.made) l.tokens l.next-index) l.fn.queue.buckets.items l.queue.buckets.items
