use Rattle.std.proofs.Common.{◌≡◌, ◌+◌, drop}
use Rattle.std.specs.List.{flat_map, enumerate_from}
use Rattle.mh_join_names.specs.Faults.{levels_in_declaration}
use Rattle.mh_join_names.specs.code.SymbolTables.{meanings_in}
use Rattle.mh_join_faults.proofs.duplicates.check_levels.Given as goal

abbrev pub invariant-loop-rank : goal.invariant-loop-rank
invariant-loop-rank l = flat_map (levels_in_declaration (meanings_in l.names) l.file) (enumerate_from (0 + l.rank) (drop l.rank l.levels)) ≡ flat_map (levels_in_declaration (meanings_in l.names) l.file) (enumerate_from 0 l.levels)
