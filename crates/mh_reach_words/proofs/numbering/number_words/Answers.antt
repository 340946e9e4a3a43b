use Rattle.mh_reach_words.proofs.numbering.number_words.Goals as goal

pub number_ordered-requires-clause-orders : goal.number_ordered-requires-clause-orders
number_ordered-requires-clause-orders c = rw c.as_slice.ensures.value c.in_ok-words.ensures

pub returns : goal.returns
returns c = c.number_ordered.ensures
