use Rattle.std.proofs.Common.{◌≡◌, ◌++◌, Some, map, take}
use Rattle.std.specs.List.{enumerate_from}
use Rattle.mh_join_names.specs.Faults.{meant_by}
use Rattle.mh_join_names.specs.Joining.{alternative_by}
use Rattle.mh_join_names.specs.code.SymbolTables.{meanings_in, formals_in}
use Rattle.mh_join_parts.proofs.building.add_alternatives.Given as goal

abbrev pub invariant-loop-at : goal.invariant-loop-at
invariant-loop-at l = map Some l.joined ≡ map Some l.initial.joined ++ map (alternative_by (meanings_in l.scope.names.now) l.scope.file (meant_by (meanings_in l.scope.names.now) l.scope.file (formals_in l.scope.formals.now))) (enumerate_from l.place (take l.at l.alternatives))
