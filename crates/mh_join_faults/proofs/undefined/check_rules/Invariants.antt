use Rattle.std.proofs.Common.{◌≡◌, drop}
use Rattle.std.specs.List.{flat_map}
use Rattle.mh_join_names.specs.Faults.{undefined_in_rule}
use Rattle.mh_join_names.specs.code.SymbolTables.{meanings_in}
use Rattle.mh_join_faults.proofs.undefined.check_rules.Given as goal

abbrev pub invariant-loop-rule : goal.invariant-loop-rule
invariant-loop-rule l = flat_map (undefined_in_rule (meanings_in l.names) l.file) (drop l.rule-index l.rules) ≡ flat_map (undefined_in_rule (meanings_in l.names) l.file) l.rules
