use Rattle.std.proofs.Common.{◌≡◌, drop}
use Rattle.std.specs.List.{flat_map}
use Rattle.mh_join_names.specs.Faults.{unlevelled_in_rule}
use Rattle.mh_join_names.specs.code.SymbolTables.{meanings_in}
use Rattle.mh_join_faults.proofs.errors.check_file_precs.Given as goal

abbrev pub invariant-loop-rule : goal.invariant-loop-rule
invariant-loop-rule l = flat_map (unlevelled_in_rule (meanings_in l.names)) (drop l.rule-index l.rules) ≡ flat_map (unlevelled_in_rule (meanings_in l.names)) l.rules
