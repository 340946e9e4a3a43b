use Rattle.mh_inline.proofs.depth.leave.Goals as goal

pub least_of-least-requires-clause-numbers : goal.least_of-least-requires-clause-numbers
least_of-least-requires-clause-numbers c = rw (c.as_slice.ensures.value, c.requires.search.ranks) c.in_ok-made_of.ensures.within
