use Rattle.std.proofs.Common.{map, ap, ◌∙◌}
use Rattle.std.proofs.lemmas.List.{take_all}
use Rattle.mh_resolve_cells.specs.States.{core_item_of}
use Rattle.mh_grammar.proofs.Lists.{map_step}
use Rattle.mh_resolve.proofs.states.core_of.Goals as goal

pub loop-item-preserved : goal.loop-item-preserved
loop-item-preserved g c = map_step core_item_of c.args.items.now c.loop-item.item-index c.item-item.result c.item-item.result c.loop-item.core.items c.push.new.self.items c.place.result c.loop-item-test.true c.item-item.is c.loop-item.invariant c.place.ensures c.in_ok-push.ensures.items

pub returns : goal.returns
returns g c = c.loop-item.invariant ∙ ap (map core_item_of) (take_all c.loop-item.item-index c.args.items.now c.loop-item-test.false)
