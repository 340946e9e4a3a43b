use Rattle.std.proofs.Common.{◌≡◌, ◌++◌, Some, map, take}
use Rattle.mh_join_names.specs.Faults.{meant_by}
use Rattle.mh_join_names.specs.Joining.{all_resolved}
use Rattle.mh_join_names.specs.code.SymbolTables.{meanings_in, formals_in}
use Rattle.mh_join_parts.proofs.building.add_on_error.Given as goal

abbrev pub invariant-loop-actuals : goal.invariant-loop-actuals
invariant-loop-actuals l = map Some l.joined ≡ map Some l.initial.joined ++ map (all_resolved (meant_by (meanings_in l.scope.names.now) l.scope.file (formals_in l.scope.formals.now))) (take l.actuals-index l.declared)
