use Rattle.std.proofs.Common.{◌≡◌, drop, map}
use Rattle.mh_tabfile_read.specs.code.Lines.{lines_in}
use Rattle.mh_tabfile_read.specs.code.Machine.{run, initial_reader}
use Rattle.mh_tabfile_read.proofs.reading.read_with.Given as goal

abbrev pub invariant-loop-at : goal.invariant-loop-at
invariant-loop-at l = run initial_reader (lines_in (map (λ x. x.now) l.parts)) ≡ run l.reader (lines_in (map (λ x. x.now) (drop l.at l.parts)))
