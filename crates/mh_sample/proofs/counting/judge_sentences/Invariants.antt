use Rattle.std.proofs.Common.{map}
use Rattle.mh_run.specs.Verdicts.{ending_for}
use Rattle.mh_msgfile.specs.Sentences.{vocabulary_in}
use Rattle.mh_sample.specs.Texts.{each_from}
use Rattle.mh_sample.specs.Counts.{HaveEndings, sentences_at}
use Rattle.mh_sample.proofs.counting.judge_sentences.Given as goal

abbrev pub invariant-loop-number : goal.invariant-loop-number
invariant-loop-number l = HaveEndings l.table (each_from (sentences_at (vocabulary_in l.lexicon) l.operators) 0 l.number) (map ending_for l.verdicts.items)
