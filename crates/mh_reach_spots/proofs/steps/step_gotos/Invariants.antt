use Rattle.mh_facts.specs.code.Queues.{QueueGains}
use Rattle.mh_reach_spots.specs.code.SpotSteps.{StepsOverGoto}
use Rattle.mh_facts.proofs.QueueGains.{First}
use Rattle.mh_reach_spots.proofs.steps.step_gotos.Given as goal

abbrev pub invariant-loop-goto : goal.invariant-loop-goto
invariant-loop-goto l = QueueGains (First (StepsOverGoto l.from) l.gotos l.goto-index) l.fn.queue.buckets.items l.queue.buckets.items
