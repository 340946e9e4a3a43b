use Rattle.std.proofs.Common.{◌≡◌, arith, length, []}
use Rattle.mh_facts.specs.code.Queues.{Among}
use Rattle.mh_facts.specs.code.TokenClasses.{representatives_at}
use Rattle.mh_reach_spots.specs.code.SpotSteps.{IsStartArrivalOn}
use Rattle.mh_facts.proofs.QueueGains.{below_begins, Below-step}
use Rattle.mh_reach_spots.proofs.steps.starts.Goals as goal

pub loop-start-init : goal.loop-start-init
loop-start-init c = rw c.empty_queue-queue.ensures (below_begins (λ start. Among (IsStartArrivalOn start) (representatives_at c.args.classes.now start)) [])

pub loop-start-preserved : goal.loop-start-preserved
loop-start-preserved c = Below-step (λ start. Among (IsStartArrivalOn start) (representatives_at c.args.classes.now start)) c.loop-start.start [] c.loop-start.queue.buckets.items c.push_each.new.queue.buckets.items c.loop-start.invariant (rw c.representatives_of-tokens.ensures at c.in_ok-push_each.ensures)

pub returns : goal.returns
returns c = let e : c.loop-start.start ≡ length c.args.table.now.grammar.starts = (let a = c.loop-start-test.false in let b = c.loop-start.auto.start-end in let d = c.starts-start-end.ensures in omega arith) in rw e at c.loop-start.invariant
