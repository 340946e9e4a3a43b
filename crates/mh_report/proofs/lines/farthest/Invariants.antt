use Rattle.mh_report.proofs.HasFarthestDot.{FarthestSoFar}
use Rattle.mh_report.proofs.lines.farthest.Given as goal

abbrev pub invariant-loop-item : goal.invariant-loop-item
invariant-loop-item _ l = FarthestSoFar l.items l.item-index l.best
