use Rattle.std.proofs.Common.{sym}
use Rattle.mh_reach_words.proofs.book.Book.number_all.Goals as goal

pub number_words-requires-clause-known : goal.number_words-requires-clause-known
number_words-requires-clause-known c = rw c.as_slice.ensures.value (rw (sym c.self.view_is) at c.requires.known)

pub number_words-requires-clause-prefix_free : goal.number_words-requires-clause-prefix_free
number_words-requires-clause-prefix_free c = rw c.as_slice.ensures.value (rw (sym c.self.view_is) at c.requires.prefix_free)
