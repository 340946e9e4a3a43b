use Rattle.mh_reach_words.specs.code.Words.{words_of}
use Rattle.mh_reach_words.proofs.ComparisonOrder.{compared_right, compared_no_later}
use Rattle.mh_reach_words.proofs.spelling.BySpellingOrder.comes_later.Goals as goal

pub returns-in-Greater : goal.returns-in-Greater
returns-in-Greater c = compared_right (words_of c.args.self.now.entries.now) c.args.left c.args.right (rw c.in-Greater.is at c.in_ok-compare.ensures)

pub returns-in-Less : goal.returns-in-Less
returns-in-Less c = compared_no_later (words_of c.args.self.now.entries.now) c.args.left c.args.right c.in_ok-compare.field-0 c.in_ok-compare.ensures c.in-Less.is
