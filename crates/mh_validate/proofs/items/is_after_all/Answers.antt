use Rattle.std.proofs.Common.{sym, ◌∙◌}
use Rattle.mh_validate.proofs.ItemsRead.{IsRising-push_item, positive_count}
use Rattle.mh_validate.proofs.items.is_after_all.Goals as goal

pub returns : goal.returns
returns g c =
    let all = IsRising-push_item c.args.items.now c.index-items-items.result c.args.item.now c.requires.rising (positive_count _ (sym c.is_empty.ensures ∙ c.if-is_empty.false)) c.index-items-items.is in
    (λ t. all.0 (c.is_before.ensures.0 t), λ h. c.is_before.ensures.1 (all.1 h))
