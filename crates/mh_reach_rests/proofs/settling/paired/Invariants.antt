use Rattle.mh_reach_rests.specs.code.RestLevels.{ArePaired}
use Rattle.mh_reach_rests.proofs.settling.paired.Given as goal

abbrev pub invariant-loop-place : goal.invariant-loop-place
invariant-loop-place l = ArePaired l.items l.numbers l.place l.pairs.items
