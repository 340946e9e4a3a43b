use Rattle.std.proofs.Common.{◌≡◌, Some, map, take}
use Rattle.std.specs.List.{flat_map, enumerate_from}
use Rattle.mh_join_names.specs.Joining.{on_error_in}
use Rattle.mh_join_names.specs.code.SymbolTables.{meanings_in}
use Rattle.mh_join_parts.proofs.building.put_all_on_error.Given as goal

abbrev pub invariant-loop-at : goal.invariant-loop-at
invariant-loop-at l = map Some l.joined ≡ flat_map (on_error_in (meanings_in l.names)) (enumerate_from 1 (take l.at l.modules))
