use Rattle.std.proofs.Common.{arith}
use Rattle.std.proofs.lemmas.List.Elements.{Contains-get_or}
use Rattle.mh_facts.proofs.QueueGains.{first_all, first_next}
use Rattle.mh_reach_rests.specs.code.RestRules.{FollowsBoth}
use Rattle.mh_reach_rests.proofs.joins.join_rests.Goals as goal

pub join-requires-clause-rest : goal.join-requires-clause-rest
join-requires-clause-rest c = c.requires.rests _ (Contains-get_or c.args.rests.now c.loop-rest.rest-index _ c.loop-rest-test.true)

pub loop-rest-preserved : goal.loop-rest-preserved
loop-rest-preserved c = first_next (FollowsBoth c.args.table.now c.args.classes.now c.args.goto) c.args.rests.now c.loop-rest.rest-index _ c.args.queue.now.buckets.items c.loop-rest.queue.buckets.items c.join.new.queue.buckets.items c.loop-rest-test.true c.loop-rest.invariant c.in_ok-join.ensures

pub returns : goal.returns
returns c = first_all (FollowsBoth c.args.table.now c.args.classes.now c.args.goto) c.args.rests.now c.loop-rest.rest-index c.args.queue.now.buckets.items c.loop-rest.queue.buckets.items
    (let a = c.loop-rest-test.false in let b = c.loop-rest.auto.rest-index-end in omega arith) c.loop-rest.invariant
