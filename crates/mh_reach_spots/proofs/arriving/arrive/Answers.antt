use Rattle.mh_reach_spots.proofs.arriving.arrive.Goals as goal

pub arrive_by-requires-clause-below : goal.arrive_by-requires-clause-below
arrive_by-requires-clause-below c = rw (c.into_book-book.ensures) c.requires.found.below

pub arrive_by-requires-clause-gotos : goal.arrive_by-requires-clause-gotos
arrive_by-requires-clause-gotos c = rw (c.as_slice.ensures.value, c.into_book-book.ensures) c.in-Ok.ensures
