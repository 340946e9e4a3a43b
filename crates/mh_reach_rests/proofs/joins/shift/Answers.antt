use Rattle.std.proofs.Common.{arith}
use Rattle.std.proofs.lemmas.List.Elements.{Contains-get_or}
use Rattle.mh_facts.proofs.QueueGains.{first_all, first_next}
use Rattle.mh_reach_rests.specs.code.RestRules.{FollowsToken}
use Rattle.mh_reach_rests.proofs.joins.shift.Goals as goal

pub shift_in-requires-clause-state : goal.shift_in-requires-clause-state
shift_in-requires-clause-state c = c.requires.sources _ (Contains-get_or c.args.sources.now c.loop-state.state-index _ c.loop-state-test.true)

pub loop-state-preserved : goal.loop-state-preserved
loop-state-preserved c = first_next (FollowsToken c.args.table.now c.args.classes.now c.args.rest.0 c.args.rest.1) c.args.sources.now c.loop-state.state-index _ c.args.queue.now.buckets.items c.loop-state.queue.buckets.items c.shift_in.new.queue.buckets.items c.loop-state-test.true c.loop-state.invariant c.in_ok-shift_in.ensures

pub returns : goal.returns
returns c = first_all (FollowsToken c.args.table.now c.args.classes.now c.args.rest.0 c.args.rest.1) c.args.sources.now c.loop-state.state-index c.args.queue.now.buckets.items c.loop-state.queue.buckets.items
    (let a = c.loop-state-test.false in let b = c.loop-state.auto.state-index-end in omega arith) c.loop-state.invariant
