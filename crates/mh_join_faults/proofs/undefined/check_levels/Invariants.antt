use Rattle.std.proofs.Common.{◌≡◌, drop}
use Rattle.std.specs.List.{flat_map}
use Rattle.mh_join_names.specs.Faults.{undefined_in_level}
use Rattle.mh_join_names.specs.code.SymbolTables.{meanings_in}
use Rattle.mh_join_faults.proofs.undefined.check_levels.Given as goal

abbrev pub invariant-loop-level : goal.invariant-loop-level
invariant-loop-level l = flat_map (undefined_in_level (meanings_in l.names)) (drop l.level-index l.levels) ≡ flat_map (undefined_in_level (meanings_in l.names)) l.levels
