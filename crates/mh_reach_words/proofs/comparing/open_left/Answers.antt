use Rattle.std.proofs.lemmas.Result.{on_ok_weaker}
use Rattle.mh_reach_words.proofs.IsComparisonStep.{left_word_known, left_opened}
use Rattle.mh_reach_words.specs.code.Words.{words_of}
use Rattle.mh_reach_words.proofs.comparing.open_left.Goals as goal

pub open-requires-clause-known : goal.open-requires-clause-known
open-requires-clause-known c = left_word_known (words_of c.args.entries.now) c.args.rests.now c.args.left c.args.right c.requires.tops

pub returns : goal.returns
returns c =
    on_ok_weaker c.open.result (left_opened (words_of c.args.entries.now) c.args.rests.now (record { left = c.open.new.parts; right = c.put_back.new.parts }) c.args.left c.args.right c.requires.tops c.in_ok-put_back.ensures) c.open.ensures
