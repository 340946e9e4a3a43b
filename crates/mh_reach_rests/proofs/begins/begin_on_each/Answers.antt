use Rattle.std.proofs.Common.{arith}
use Rattle.std.proofs.lemmas.List.Elements.{Contains-get_or}
use Rattle.mh_facts.proofs.QueueGains.{first_all, first_next}
use Rattle.mh_reach_rests.specs.code.RestRules.{IsEndWordOn}
use Rattle.mh_reach_rests.proofs.begins.begin_on_each.Goals as goal

pub begin_on-requires-clause-token : goal.begin_on-requires-clause-token
begin_on-requires-clause-token c = c.requires.tokens _ (Contains-get_or c.args.tokens.now c.loop-token.token-index _ c.loop-token-test.true)

pub loop-token-preserved : goal.loop-token-preserved
loop-token-preserved c = first_next (IsEndWordOn c.args.table.now c.args.classes.now c.args.state) c.args.tokens.now c.loop-token.token-index _ c.args.queue.now.buckets.items c.loop-token.queue.buckets.items c.begin_on.new.queue.buckets.items c.loop-token-test.true c.loop-token.invariant c.in_ok-begin_on.ensures

pub returns : goal.returns
returns c = first_all (IsEndWordOn c.args.table.now c.args.classes.now c.args.state) c.args.tokens.now c.loop-token.token-index c.args.queue.now.buckets.items c.loop-token.queue.buckets.items
    (let a = c.loop-token-test.false in let b = c.loop-token.auto.token-index-end in omega arith) c.loop-token.invariant
