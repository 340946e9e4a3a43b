use Rattle.std.proofs.Common.{◌≡◌, ◌++◌, drop}
use Rattle.mh_msgfile.specs.Sentences.{vocabulary_in}
use Rattle.mh_msgfile.specs.Messages.{faults_of, sentences_of}
use Rattle.mh_msgfile.proofs.messages.put_sentences.Given as goal

abbrev pub invariant-loop-line : goal.invariant-loop-line
invariant-loop-line l = record {
  none : faults_of (vocabulary_in l.lexicon) l.lines (drop l.line-index l.block) ≡ faults_of (vocabulary_in l.lexicon) l.lines l.block;
  so_far : l.sentences ++ sentences_of (vocabulary_in l.lexicon) l.lines (drop l.line-index l.block) ≡ sentences_of (vocabulary_in l.lexicon) l.lines l.block;
}
