use Rattle.mh_reach_spots.specs.code.SpotNumbers.{ArePaired}
use Rattle.mh_reach_spots.proofs.numbering.paired.Given as goal

abbrev pub invariant-loop-place : goal.invariant-loop-place
invariant-loop-place l = ArePaired l.all l.numbers l.place l.pairs.items
