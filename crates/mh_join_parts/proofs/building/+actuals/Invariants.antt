use Rattle.std.proofs.Common.{◌≡◌, [], ◌++◌, ◌+◌, ◌*◌, Some, length, map, take}
use Rattle.std.specs.List.{flat_map}
use Rattle.mh_join_names.specs.Faults.{meant_by, refs}
use Rattle.mh_join_names.specs.Joining.{resolved}
use Rattle.mh_join_names.specs.code.SymbolTables.{meanings_in, formals_in}
use Rattle.mh_join_parts.proofs.building.+actuals.Given as goal

abbrev pub invariant-joined_actuals-loop-actual : goal.invariant-joined_actuals-loop-actual
invariant-joined_actuals-loop-actual l = map Some l.joined ≡ [] ++ map (resolved (meant_by (meanings_in l.scope.names.now) l.scope.file (formals_in l.scope.formals.now))) (take l.actual-index l.actuals)

abbrev pub decreases-joined_actual : goal.decreases-joined_actual
decreases-joined_actual l = 2 * length (refs l.actual.now)

abbrev pub decreases-joined_actuals : goal.decreases-joined_actuals
decreases-joined_actuals l = 2 * length (flat_map refs l.actuals.now) + 1
