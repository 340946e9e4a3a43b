use Rattle.mh_reach_words.specs.code.Words.{words_of}
use Rattle.mh_reach_words.proofs.IsComparisonStep.{right_ends}
use Rattle.mh_reach_words.proofs.comparing.right_ended.Goals as goal

pub returns-in-Token : goal.returns-in-Token
returns-in-Token c = rw c.in-Token.is (right_ends (words_of c.args.entries.now) c.args.rests.now c.in-Token.field-0 (rw c.in-Token.is at c.requires.tops))
