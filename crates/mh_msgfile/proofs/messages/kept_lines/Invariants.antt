use Rattle.mh_msgfile.proofs.KeptLines.{KeptSoFar}
use Rattle.mh_msgfile.proofs.messages.kept_lines.Given as goal

abbrev pub invariant-loop-place : goal.invariant-loop-place
invariant-loop-place l = KeptSoFar l.lines l.numbers.items l.place
