use Rattle.mh_resolve_settle.proofs.AreHoles.{AreMarked}
use Rattle.mh_resolve_settle.proofs.holes.holes_of.Given as goal

abbrev pub invariant-loop-token : goal.invariant-loop-token
invariant-loop-token g l = AreMarked l.shifts.items l.table l.state l.token l.holes.items
