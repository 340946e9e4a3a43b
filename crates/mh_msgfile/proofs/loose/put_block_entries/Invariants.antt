use Rattle.std.proofs.Common.{length}
use Rattle.mh_msgfile.specs.Lines.{is_blank_line}
use Rattle.mh_msgfile.specs.Sentences.{runs}
use Rattle.mh_msgfile.proofs.ReadsLooseEntries.{AppendedBefore}
use Rattle.mh_msgfile.proofs.loose.put_block_entries.Given as goal

abbrev pub invariant-loop-block : goal.invariant-loop-block
invariant-loop-block l = AppendedBefore l.lines (runs (is_blank_line l.lines) l.numbers) (runs (is_blank_line l.lines) l.rest) l.entries

abbrev pub decreases-loop-block : goal.decreases-loop-block
decreases-loop-block l = length l.rest
