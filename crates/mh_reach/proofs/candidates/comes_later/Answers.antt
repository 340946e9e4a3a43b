use Rattle.mh_reach_words.proofs.ComparisonOrder.{compared_no_later, compared_right}
use Rattle.mh_reach.specs.code.Candidates.{made_of}
use Rattle.mh_reach.proofs.candidates.comes_later.Goals as goal

pub compare-requires-clause-left : goal.compare-requires-clause-left
compare-requires-clause-left c = rw c.made_of.ensures c.requires.left

pub compare-requires-clause-right : goal.compare-requires-clause-right
compare-requires-clause-right c = rw c.made_of-2.ensures c.requires.right

pub returns-in-Greater : goal.returns-in-Greater
returns-in-Greater c = compared_right c.args.spots.now.book (made_of c.args.left) (made_of c.args.right) (rw (c.made_of.ensures, c.made_of-2.ensures, c.in-Greater.is) at c.in_ok-compare.ensures)

pub returns-in-Less : goal.returns-in-Less
returns-in-Less c = compared_no_later c.args.spots.now.book (made_of c.args.left) (made_of c.args.right) c.in_ok-compare.field-0 (rw (c.made_of.ensures, c.made_of-2.ensures) at c.in_ok-compare.ensures) c.in-Less.is
