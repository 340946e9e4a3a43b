use Rattle.std.proofs.Common.{◌≡◌, ◌+◌, drop}
use Rattle.std.specs.List.{flat_map, enumerate_from}
use Rattle.mh_join_names.specs.Faults.{levels_in_file}
use Rattle.mh_join_names.specs.code.SymbolTables.{meanings_in}
use Rattle.mh_join_faults.proofs.duplicates.check_all_levels.Given as goal

abbrev pub invariant-loop-at : goal.invariant-loop-at
invariant-loop-at l = flat_map (levels_in_file (meanings_in l.names)) (enumerate_from (1 + l.at) (drop l.at l.modules)) ≡ flat_map (levels_in_file (meanings_in l.names)) (enumerate_from 1 l.modules)
