use Rattle.std.proofs.Common.{◌∙◌}
use Rattle.mh_grammar.proofs.Lists.{map_step}
use Rattle.mh_join_names.specs.Joining.{token_info}
use Rattle.mh_join_names.specs.code.SymbolTables.{meanings_in}
use Rattle.mh_join_parts.proofs.building.put_tokens.Goals as goal

pub loop-name-preserved : goal.loop-name-preserved
loop-name-preserved c = map_step (token_info (meanings_in c.args.names.now)) c.as_slice-name-items.result.now c.loop-name.name-index c.name-item.result c.name-item.result c.loop-name.tokens c.push.new.self (record { name = c.in_ok-clone.field-0; level = c.copied.result; cost = c.cost_of.result }) c.loop-name-test.true c.name-item.is c.loop-name.invariant
    (λ i. record { name = c.in_ok-clone.ensures.cases i; level = (c.copied.ensures ∙ c.get.ensures.value) i; cost = c.cost_of.ensures i }) c.in_ok-push.ensures.ok
