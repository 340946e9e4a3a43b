use Rattle.std.proofs.Common.{◌≡◌, drop}
use Rattle.std.specs.List.{flat_map}
use Rattle.mh_join_names.specs.Faults.{other_shape}
use Rattle.mh_join_names.specs.code.SymbolTables.{meanings_in, is_public_in}
use Rattle.mh_join_faults.proofs.duplicates.check_file_shapes.Given as goal

abbrev pub invariant-loop-rule : goal.invariant-loop-rule
invariant-loop-rule l = flat_map (other_shape (meanings_in l.names) (is_public_in l.names l.marked)) (drop l.rule-index l.rules) ≡ flat_map (other_shape (meanings_in l.names) (is_public_in l.names l.marked)) l.rules
