use Rattle.std.proofs.Common.{arith}
use Rattle.std.proofs.lemmas.List.Elements.{Contains-get_or}
use Rattle.mh_reach_spots.specs.code.SpotSteps.{StepsOverGoto}
use Rattle.mh_facts.proofs.QueueGains.{first_next, first_all}
use Rattle.mh_reach_spots.proofs.steps.step_gotos.Goals as goal

pub step_goto-requires-clause-goto : goal.step_goto-requires-clause-goto
step_goto-requires-clause-goto c = c.requires.gotos _ (Contains-get_or c.args.gotos.now c.loop-goto.goto-index _ c.loop-goto-test.true)

pub loop-goto-preserved : goal.loop-goto-preserved
loop-goto-preserved c = first_next (StepsOverGoto c.args.from) c.args.gotos.now c.loop-goto.goto-index _ c.args.queue.now.buckets.items c.loop-goto.queue.buckets.items c.step_goto.new.queue.buckets.items c.loop-goto-test.true c.loop-goto.invariant c.in_ok-step_goto.ensures

pub returns : goal.returns
returns c = first_all (StepsOverGoto c.args.from) c.args.gotos.now c.loop-goto.goto-index c.args.queue.now.buckets.items c.loop-goto.queue.buckets.items
    (let a = c.loop-goto-test.false in let b = c.loop-goto.auto.goto-index-end in omega arith) c.loop-goto.invariant
