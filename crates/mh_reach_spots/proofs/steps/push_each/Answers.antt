use Rattle.std.proofs.Common.{arith}
use Rattle.mh_reach_spots.specs.code.SpotSteps.{StepsOn}
use Rattle.mh_facts.proofs.QueueGains.{first_next, first_all}
use Rattle.mh_reach_spots.proofs.steps.push_each.Goals as goal

pub loop-next-preserved : goal.loop-next-preserved
loop-next-preserved c = first_next (StepsOn c.args.cost c.args.state c.args.made) c.args.tokens.now c.loop-next.next-index _ c.args.queue.now.buckets.items c.loop-next.queue.buckets.items c.push.new.queue.buckets.items c.loop-next-test.true c.loop-next.invariant c.in_ok-push.ensures

pub returns : goal.returns
returns c = first_all (StepsOn c.args.cost c.args.state c.args.made) c.args.tokens.now c.loop-next.next-index c.args.queue.now.buckets.items c.loop-next.queue.buckets.items
    (let a = c.loop-next-test.false in let b = c.loop-next.auto.next-index-end in omega arith) c.loop-next.invariant
