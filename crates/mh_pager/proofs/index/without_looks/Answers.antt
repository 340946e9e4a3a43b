use Rattle.std.proofs.Common.{map, ap, ◌∙◌}
use Rattle.std.proofs.lemmas.List.{take_all}
use Rattle.mh_pager.specs.code.Cores.{core_item}
use Rattle.mh_grammar.proofs.Lists.{map_step}
use Rattle.mh_pager.proofs.index.without_looks.Goals as goal

pub loop-item-preserved : goal.loop-item-preserved
loop-item-preserved g c = map_step core_item c.as_slice-items.result.now c.loop-item.item-index c.item-item.result c.item-item.result c.loop-item.places.items c.push.new.self.items c.bare_item.result c.loop-item-test.true c.item-item.is c.loop-item.invariant c.bare_item.ensures c.in_ok-push.ensures.items

pub returns : goal.returns
returns g c =
    let whole = take_all c.loop-item.item-index c.as_slice-items.result.now c.loop-item-test.false ∙ c.as_slice-items.ensures in
    let items = c.from_vec.ensures ∙ c.loop-item.invariant ∙ ap (map core_item) whole in
    λ j. record { items = items j }
