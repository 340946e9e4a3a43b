use Rattle.std.proofs.Common.{◌≡◌, take}
use Rattle.mh_reach_spots.specs.code.SpotNumbers.{mades}
use Rattle.mh_reach_spots.proofs.numbering.all_made.Given as goal

abbrev pub invariant-loop-coming : goal.invariant-loop-coming
invariant-loop-coming l = l.made.items ≡ mades (take l.coming-index l.all)
