use Rattle.mh_reach.specs.code.Candidates.{IsBestBelow}
use Rattle.mh_reach.proofs.candidates.best_of.Given as goal

abbrev pub invariant-loop-token : goal.invariant-loop-token
invariant-loop-token l = IsBestBelow l.table l.classes l.spots.book l.spots.spots l.state l.token l.best
