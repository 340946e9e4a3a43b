use Rattle.std.proofs.Common.{◌≡◌, ◌++◌}
use Rattle.mh_sample.specs.Texts.{each_from, sentence_line}
use Rattle.mh_sample.proofs.texts.write_sentences.Given as goal

abbrev pub invariant-loop-number : goal.invariant-loop-number
invariant-loop-number l = l.text.items ≡ l.initial.text.items ++ each_from (sentence_line l.operators) 0 l.number
