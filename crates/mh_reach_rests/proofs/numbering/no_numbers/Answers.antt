use Rattle.mh_reach_rests.proofs.numbering.no_numbers.Goals as goal

pub returns : goal.returns
returns c = c.in_ok-numbers.ensures.items_if_clones_equal (λ y e. e)
