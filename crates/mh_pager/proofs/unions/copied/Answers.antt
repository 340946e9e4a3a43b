use Rattle.std.proofs.Common.{◌∙◌}
use Rattle.std.proofs.lemmas.List.{take_all}
use Rattle.mh_grammar.proofs.Lists.{copy_step}
use Rattle.mh_pager.proofs.unions.copied.Goals as goal

pub loop-item-preserved : goal.loop-item-preserved
loop-item-preserved g c = copy_step c.as_slice-items.result.now c.loop-item.item-index c.item-item.result c.copied_item.result c.loop-item.all.items c.push.new.self.items c.loop-item-test.true c.item-item.is c.loop-item.invariant c.copied_item.ensures c.in_ok-push.ensures.items

pub returns : goal.returns
returns g c =
    let whole = c.from_vec.ensures ∙ c.loop-item.invariant ∙ take_all c.loop-item.item-index c.as_slice-items.result.now c.loop-item-test.false ∙ c.as_slice-items.ensures in
    λ j. record { items = whole j }
