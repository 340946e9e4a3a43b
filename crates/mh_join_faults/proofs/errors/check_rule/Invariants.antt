use Rattle.std.proofs.Common.{◌≡◌, drop}
use Rattle.std.specs.List.{flat_map}
use Rattle.mh_join_names.specs.Faults.{errors_in_alternative}
use Rattle.mh_join_faults.proofs.errors.check_rule.Given as goal

abbrev pub invariant-loop-alternative : goal.invariant-loop-alternative
invariant-loop-alternative l = flat_map (errors_in_alternative) (drop l.alternative-index l.alternative-items) ≡ flat_map (errors_in_alternative) l.alternative-items
