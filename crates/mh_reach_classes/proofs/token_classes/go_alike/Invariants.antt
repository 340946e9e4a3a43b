use Rattle.mh_reach_classes.proofs.TreatsAlike.{FirstTreatAlike}
use Rattle.mh_reach_classes.proofs.token_classes.go_alike.Given as goal

abbrev pub invariant-loop-place : goal.invariant-loop-place
invariant-loop-place l = FirstTreatAlike l.table l.classes l.past.keys l.place
