use Rattle.mh_inline.proofs.depth.enter.Goals as goal

pub push_visits-requires-clause-numbers : goal.push_visits-requires-clause-numbers
push_visits-requires-clause-numbers c = rw (c.as_slice.ensures.value, c.len-2.ensures) c.in_ok-made_of.ensures.within
