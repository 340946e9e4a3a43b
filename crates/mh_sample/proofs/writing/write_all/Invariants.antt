use Rattle.std.proofs.Common.{ℕ, List}
use Rattle.mh_sample.specs.code.Writing.{rounds_left, Ends, IsWriting}
use Rattle.mh_sample.proofs.writing.write_all.Given as goal

abbrev pub invariant-loop-symbol : goal.invariant-loop-symbol
invariant-loop-symbol l = record {
  writing : IsWriting l.guide l.writing;
  ends : (s : List ℕ) → Ends l.guide l.writing s → Ends l.guide l.fn.writing s;
}

abbrev pub decreases-loop-symbol : goal.decreases-loop-symbol
decreases-loop-symbol l = rounds_left l.writing
