use Rattle.std.proofs.Common.{◌≡◌, drop}
use Rattle.std.specs.List.{flat_map}
use Rattle.mh_join_names.specs.Faults.{unknown_string}
use Rattle.mh_join_names.specs.code.SymbolTables.{meanings_in}
use Rattle.mh_join_faults.proofs.undefined.check_level.Given as goal

abbrev pub invariant-loop-reference : goal.invariant-loop-reference
invariant-loop-reference l = flat_map (unknown_string (meanings_in l.names).aliased) (drop l.reference-index l.reference-items) ≡ flat_map (unknown_string (meanings_in l.names).aliased) l.reference-items
