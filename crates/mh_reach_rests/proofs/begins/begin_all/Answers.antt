use Rattle.std.proofs.Common.{◌≡◌, arith, length, []}
use Rattle.mh_facts.proofs.QueueGains.{Below-step, below_begins}
use Rattle.mh_reach_rests.specs.code.RestRules.{IsEndWord}
use Rattle.mh_reach_rests.proofs.begins.begin_all.Goals as goal

pub loop-state-init : goal.loop-state-init
loop-state-init c = rw c.empty_queue-queue.ensures (below_begins (IsEndWord c.args.table.now c.args.classes.now) [])

pub loop-state-preserved : goal.loop-state-preserved
loop-state-preserved c = Below-step (IsEndWord c.args.table.now c.args.classes.now) c.loop-state.state [] c.loop-state.queue.buckets.items c.begin_in.new.queue.buckets.items c.loop-state.invariant c.in_ok-begin_in.ensures

pub returns : goal.returns
returns c = let e : c.loop-state.state ≡ length c.args.table.now.states = (let a = c.loop-state-test.false in let b = c.loop-state.auto.state-end in let d = c.states-state-end.ensures in omega arith) in rw e at c.loop-state.invariant
