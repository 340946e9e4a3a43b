use Rattle.mh_reach_words.proofs.LongerBook.{is_book}
use Rattle.mh_reach_words.proofs.book.Book.rising.Goals as goal

pub returns : goal.returns
returns c = rw c.self.view_is at (is_book c.self.inside.entries.items c.self.invariant)
