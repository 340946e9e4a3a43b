use Rattle.mh_tables_core.specs.Table.{state_at}
use Rattle.mh_facts.specs.code.Queues.{QueueGains}
use Rattle.mh_reach_spots.specs.code.SpotSteps.{StepsEdge}
use Rattle.mh_facts.proofs.QueueGains.{First}
use Rattle.mh_reach_spots.proofs.steps.step_shifts.Given as goal

abbrev pub invariant-loop-edge : goal.invariant-loop-edge
invariant-loop-edge l = QueueGains (First (StepsEdge l.table l.classes l.from) (state_at l.table l.from.spot.state).edges l.edge-index) l.fn.queue.buckets.items l.queue.buckets.items
