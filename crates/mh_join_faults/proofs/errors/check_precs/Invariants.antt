use Rattle.std.proofs.Common.{◌≡◌, drop}
use Rattle.std.specs.List.{flat_map}
use Rattle.mh_join_names.specs.Faults.{unlevelled_in_file}
use Rattle.mh_join_names.specs.code.SymbolTables.{meanings_in}
use Rattle.mh_join_faults.proofs.errors.check_precs.Given as goal

abbrev pub invariant-loop-file : goal.invariant-loop-file
invariant-loop-file l = flat_map (unlevelled_in_file (meanings_in l.names)) (drop l.file-index l.modules) ≡ flat_map (unlevelled_in_file (meanings_in l.names)) l.modules
