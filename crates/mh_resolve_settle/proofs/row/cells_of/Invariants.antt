use Rattle.mh_resolve_settle.proofs.AreCells.{AreSettledSoFar}
use Rattle.mh_resolve_settle.proofs.row.cells_of.Given as goal

abbrev pub invariant-loop-token : goal.invariant-loop-token
invariant-loop-token l = AreSettledSoFar l.token l.tallies l.shifts l.cells.items
