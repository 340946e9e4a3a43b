use Rattle.std.proofs.Common.{◌≡◌, drop}
use Rattle.std.specs.List.{flat_map}
use Rattle.mh_join_names.specs.Faults.{undefined_start}
use Rattle.mh_join_names.specs.code.SymbolTables.{meanings_in}
use Rattle.mh_join_faults.proofs.undefined.check_starts.Given as goal

abbrev pub invariant-loop-start : goal.invariant-loop-start
invariant-loop-start l = flat_map (undefined_start (meanings_in l.names)) (drop l.start-index l.starts) ≡ flat_map (undefined_start (meanings_in l.names)) l.starts
