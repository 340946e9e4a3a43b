use Rattle.mh_join_names.specs.Names.{alias_of}
use Rattle.mh_join_names.proofs.Lists.{InsertsNew-more}
use Rattle.mh_join_parts.proofs.aliases.add_aliases.Goals as goal

pub loop-token-preserved : goal.loop-token-preserved
loop-token-preserved c = InsertsNew-more alias_of c.args.aliases.now c.loop-token.aliases c.add_alias.new.aliases c.args.tokens.now c.loop-token.token-index c.token-item.result c.loop-token-test.true c.token-item.is c.loop-token.invariant c.in_ok-add_alias.ensures
