use Rattle.mh_reach.specs.code.Candidates.{AreBest}
use Rattle.mh_reach.proofs.candidates.all_best.Given as goal

abbrev pub invariant-loop-state : goal.invariant-loop-state
invariant-loop-state l = AreBest l.table l.classes l.spots.book l.spots.spots l.state l.all.items
