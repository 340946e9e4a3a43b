use Rattle.std.proofs.Common.{◌≡◌, arith}
use Rattle.mh_reach_rests.proofs.RestNumbers.{no_tokens, token_put}
use Rattle.mh_reach_rests.proofs.numbering.tokens_by_cost.Goals as goal

pub loop-token-init : goal.loop-token-init
loop-token-init c = no_tokens c.args.table.now c.empty_queue-queue.result.buckets.items c.empty_queue-queue.ensures

pub loop-token-preserved : goal.loop-token-preserved
loop-token-preserved c = token_put c.args.table.now c.loop-token.token c.token_cost.result c.loop-token.queue.buckets.items c.push.new.queue.buckets.items c.loop-token.invariant c.token_cost.ensures c.in_ok-push.ensures

pub returns : goal.returns
returns c = let e : c.loop-token.token ≡ c.args.table.now.grammar.tokens = (let a = c.loop-token-test.false in let b = c.loop-token.auto.token-end in let d = c.tokens-token-end.ensures in omega arith) in rw e at c.loop-token.invariant
