use Rattle.mh_reach_words.specs.code.Words.{words_of, spelled}
use Rattle.mh_reach_words.proofs.ComparisonOrder.{compared_differs}
use Rattle.mh_reach_words.proofs.numbering.is_equal.Goals as goal

pub returns-in-Equal : goal.returns-in-Equal
returns-in-Equal c = rw c.in-Equal.is at c.in_ok-compare.ensures

pub returns-in-Less : goal.returns-in-Less
returns-in-Less c = compared_differs (spelled (words_of c.args.entries.now) c.args.left) (spelled (words_of c.args.entries.now) c.args.right) c.in_ok-compare.field-0 c.in_ok-compare.ensures c.in-Less.is
