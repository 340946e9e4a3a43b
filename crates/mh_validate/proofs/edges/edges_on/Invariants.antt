use Rattle.std.proofs.Common.{◌≡◌, ◌++◌, drop}
use Rattle.mh_validate.specs.code.MatchedEdges.{edges_on}
use Rattle.mh_validate.proofs.edges.edges_on.Given as goal

abbrev pub invariant-loop-at : goal.invariant-loop-at
invariant-loop-at g l = l.row.items ++ edges_on (drop l.at l.moves) (drop l.at l.raws) ≡ edges_on l.moves l.raws
