use Rattle.std.proofs.Common.{◌≡◌, drop}
use Rattle.std.specs.List.{flat_map}
use Rattle.mh_join_names.specs.Faults.{aliases_in_file}
use Rattle.mh_join_names.specs.code.SymbolTables.{meanings_in}
use Rattle.mh_join_faults.proofs.duplicates.check_all_aliases.Given as goal

abbrev pub invariant-loop-file : goal.invariant-loop-file
invariant-loop-file l = flat_map (aliases_in_file (meanings_in l.names)) (drop l.file-index l.modules) ≡ flat_map (aliases_in_file (meanings_in l.names)) l.modules
