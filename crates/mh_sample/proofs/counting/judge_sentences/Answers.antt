use Rattle.mh_msgfile.specs.Sentences.{vocabulary_in}
use Rattle.mh_sample.specs.Counts.{sentences_at}
use Rattle.mh_sample.proofs.Verdicts.{endings_none, endings_push}
use Rattle.mh_sample.proofs.counting.judge_sentences.Goals as goal

pub loop-number-init : goal.loop-number-init
loop-number-init c = endings_none c.args.table.now (sentences_at (vocabulary_in c.args.lexicon.now) c.args.operators) c.new-verdicts.result.items c.new-verdicts.ensures.items

pub loop-number-preserved : goal.loop-number-preserved
loop-number-preserved c =
    endings_push c.args.table.now (sentences_at (vocabulary_in c.args.lexicon.now) c.args.operators) c.loop-number.number c.loop-number.verdicts.items c.judge_sentence.new.verdicts.items
    c.in_ok-judge_sentence.ensures c.loop-number.invariant
