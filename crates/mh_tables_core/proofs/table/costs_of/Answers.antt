use Rattle.std.proofs.Common.{refl}
use Rattle.mh_grammar.specs.declared.types.TokenInfo.{TokenInfo}
use Rattle.mh_grammar.proofs.Lists.{map_step}
use Rattle.mh_tables_core.proofs.table.costs_of.Goals as goal

pub loop-token-preserved : goal.loop-token-preserved
loop-token-preserved c = map_step (λ (token : TokenInfo). token.cost) c.args.tokens.now c.loop-token.token-index c.token-item.result c.token-item.result c.loop-token.costs.items c.push.new.self.items c.token-item.result.cost c.loop-token-test.true c.token-item.is c.loop-token.invariant refl c.in_ok-push.ensures.items
