use Rattle.std.proofs.Common.{[]}
use Rattle.mh_facts.specs.code.Queues.{QueueGains, Below, Among}
use Rattle.mh_facts.specs.code.TokenClasses.{representatives_at}
use Rattle.mh_reach_spots.specs.code.SpotSteps.{IsStartArrivalOn}
use Rattle.mh_reach_spots.proofs.steps.starts.Given as goal

abbrev pub invariant-loop-start : goal.invariant-loop-start
invariant-loop-start l = QueueGains (Below (λ start. Among (IsStartArrivalOn start) (representatives_at l.classes start)) l.start) [] l.queue.buckets.items
