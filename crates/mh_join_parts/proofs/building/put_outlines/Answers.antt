use Rattle.mh_grammar.proofs.Lists.{map_step}
use Rattle.mh_join_names.specs.Joining.{rule_of_outline}
use Rattle.mh_join_names.specs.code.SymbolTables.{elsewhere_in}
use Rattle.mh_join_parts.proofs.building.put_outlines.Goals as goal

pub loop-outline-preserved : goal.loop-outline-preserved
loop-outline-preserved c = map_step (rule_of_outline (elsewhere_in c.args.names.now)) c.deref-outline-items.result.now c.loop-outline.outline-index c.outline-item.result c.outline-item.result c.loop-outline.rules.items c.push.new.self.items (record { name = c.in_ok-printed.field-0; inlined = c.outline-item.result.inlined; formals = c.outline-item.result.formals; alternatives = c.new.result }) c.loop-outline-test.true c.outline-item.is c.loop-outline.invariant
    (λ i. record { name = c.in_ok-printed.ensures i; inlined = c.outline-item.result.inlined; formals = c.outline-item.result.formals; alternatives = c.new.ensures i }) c.in_ok-push.ensures.items
