use Rattle.std.proofs.Common.{◌≡◌, drop}
use Rattle.std.specs.List.{flat_map}
use Rattle.mh_join_names.specs.Faults.{formals_in_file}
use Rattle.mh_join_faults.proofs.duplicates.check_all_formals.Given as goal

abbrev pub invariant-loop-file : goal.invariant-loop-file
invariant-loop-file l = flat_map (formals_in_file) (drop l.file-index l.modules) ≡ flat_map (formals_in_file) l.modules
