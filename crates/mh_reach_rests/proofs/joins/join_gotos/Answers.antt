use Rattle.std.proofs.Common.{arith}
use Rattle.std.proofs.lemmas.List.Elements.{Contains-get_or}
use Rattle.mh_facts.proofs.QueueGains.{first_all, first_next}
use Rattle.mh_reach_rests.specs.code.RestRules.{FollowsBoth}
use Rattle.mh_reach_rests.proofs.joins.join_gotos.Goals as goal

pub join-requires-clause-goto : goal.join-requires-clause-goto
join-requires-clause-goto c = c.requires.gotos _ (Contains-get_or c.args.gotos.now c.loop-goto.goto-index _ c.loop-goto-test.true)

pub loop-goto-preserved : goal.loop-goto-preserved
loop-goto-preserved c = first_next (λ goto. FollowsBoth c.args.table.now c.args.classes.now goto c.args.rest) c.args.gotos.now c.loop-goto.goto-index _ c.args.queue.now.buckets.items c.loop-goto.queue.buckets.items c.join.new.queue.buckets.items c.loop-goto-test.true c.loop-goto.invariant c.in_ok-join.ensures

pub returns : goal.returns
returns c = first_all (λ goto. FollowsBoth c.args.table.now c.args.classes.now goto c.args.rest) c.args.gotos.now c.loop-goto.goto-index c.args.queue.now.buckets.items c.loop-goto.queue.buckets.items
    (let a = c.loop-goto-test.false in let b = c.loop-goto.auto.goto-index-end in omega arith) c.loop-goto.invariant
