use Rattle.std.proofs.Common.{take}
use Rattle.mh_validate.proofs.ItemsRead.{LooksSoFar}
use Rattle.mh_validate.proofs.looks.looks_of.Given as goal

abbrev pub invariant-loop-index : goal.invariant-loop-index
invariant-loop-index g l = LooksSoFar l.grammar (take l.index l.names) l.looks l.last
