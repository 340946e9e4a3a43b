use Rattle.std.proofs.Common.{◌≡◌, [], drop}
use Rattle.std.specs.List.{flat_map}
use Rattle.mh_rules.specs.declared.modules.Rule.{Rule}
use Rattle.mh_join_names.specs.Faults.{repeats}
use Rattle.mh_join_faults.proofs.duplicates.check_formals.Given as goal

abbrev pub invariant-loop-rule : goal.invariant-loop-rule
invariant-loop-rule l = flat_map (λ (r : Rule). repeats [] r.formals) (drop l.rule-index l.rules) ≡ flat_map (λ (r : Rule). repeats [] r.formals) l.rules
