use Rattle.std.proofs.Common.{◌≡◌, ◌++◌, ◌==◌, map, length}
use Rattle.std.specs.List.{slice_split}
use Rattle.mh_tabfile_read.proofs.lines.put_lines.Given as goal

abbrev pub invariant-loop-line : goal.invariant-loop-line
invariant-loop-line l = map (λ x. x.now) l.parts.items ++ slice_split (λ b. b == 10) l.rest ≡ slice_split (λ b. b == 10) l.bytes

abbrev pub decreases-loop-line : goal.decreases-loop-line
decreases-loop-line l = length l.rest
