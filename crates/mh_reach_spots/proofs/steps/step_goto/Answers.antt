use Rattle.std.proofs.Common.{◌+◌}
use Rattle.std.proofs.lemmas.Result.{on_ok_weaker}
use Rattle.std.specs.Prelude.{min}
use Rattle.mh_facts.specs.Costs.{cap}
use Rattle.mh_reach_spots.specs.code.SpotSteps.{StepsOverGoto}
use Rattle.mh_facts.proofs.QueueGains.{gains_none, gains_only}
use Rattle.mh_reach_spots.proofs.steps.step_goto.Goals as goal

pub returns-in-None : goal.returns-in-None
returns-in-None c = gains_none (StepsOverGoto c.args.from c.args.goto) c.args.queue.now.buckets.items (rw c.in-None.is at c.stepped.ensures)

pub returns-in-Some : goal.returns-in-Some
returns-in-Some c = on_ok_weaker c.push.result (gains_only (StepsOverGoto c.args.from c.args.goto) (min (c.args.from.cost + c.args.goto.cost) cap) c.in-Some.coming c.args.queue.now.buckets.items c.push.new.queue.buckets.items (rw c.in-Some.is at c.stepped.ensures)) (rw c.add_costs.ensures at c.push.ensures)
