use Rattle.mh_join_names.specs.Names.{given_cost}
use Rattle.mh_join_names.proofs.Lists.{InsertsNew-more}
use Rattle.mh_join_parts.proofs.costs.add_costs.Goals as goal

pub loop-token-preserved : goal.loop-token-preserved
loop-token-preserved c = InsertsNew-more given_cost c.args.costs.now c.loop-token.costs c.add_cost.new.costs c.args.tokens.now c.loop-token.token-index c.token-item.result c.loop-token-test.true c.token-item.is c.loop-token.invariant c.in_ok-add_cost.ensures
