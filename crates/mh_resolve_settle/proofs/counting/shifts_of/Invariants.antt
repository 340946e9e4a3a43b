use Rattle.mh_resolve_settle.proofs.AreShifts.{AreShiftsSoFar}
use Rattle.mh_resolve_settle.proofs.counting.shifts_of.Given as goal

abbrev pub invariant-loop-edge : goal.invariant-loop-edge
invariant-loop-edge l = AreShiftsSoFar l.tokens l.edges l.edge-index l.shifts.items
