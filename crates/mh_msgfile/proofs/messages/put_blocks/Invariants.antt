use Rattle.std.proofs.Common.{◌≡◌, ◌++◌, length}
use Rattle.mh_msgfile.specs.Sentences.{vocabulary_in, runs}
use Rattle.mh_msgfile.specs.Lines.{is_blank_line}
use Rattle.mh_msgfile.specs.Messages.{faults_in, entries_in}
use Rattle.mh_msgfile.proofs.messages.put_blocks.Given as goal

abbrev pub invariant-loop-block : goal.invariant-loop-block
invariant-loop-block l = record {
  none : faults_in (vocabulary_in l.lexicon) l.lines (runs (is_blank_line l.lines) l.rest) ≡ faults_in (vocabulary_in l.lexicon) l.lines (runs (is_blank_line l.lines) l.numbers);
  so_far : l.entries ++ entries_in (vocabulary_in l.lexicon) l.lines (runs (is_blank_line l.lines) l.rest) ≡ entries_in (vocabulary_in l.lexicon) l.lines (runs (is_blank_line l.lines) l.numbers);
}

abbrev pub decreases-loop-block : goal.decreases-loop-block
decreases-loop-block l = length l.rest
