use Rattle.std.proofs.Common.{◌≡◌, drop}
use Rattle.std.specs.List.{flat_map}
use Rattle.mh_join_names.specs.Faults.{errors_in_rule}
use Rattle.mh_join_faults.proofs.errors.check_rules.Given as goal

abbrev pub invariant-loop-rule : goal.invariant-loop-rule
invariant-loop-rule l = flat_map (errors_in_rule) (drop l.rule-index l.rules) ≡ flat_map (errors_in_rule) l.rules
