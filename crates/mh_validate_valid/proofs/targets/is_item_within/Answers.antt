use Rattle.mh_validate_valid.proofs.targets.is_item_within.Goals as goal

pub returns : goal.returns
returns g c = (λ t. record { production = c.if-inner-outer.false; dot = c.if-inner-outer-2.false; looks = c.is_subset.ensures.0 t }, λ within. c.is_subset.ensures.1 within.looks)
