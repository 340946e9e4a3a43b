use Rattle.std.proofs.Common.{◌≡◌, drop}
use Rattle.std.specs.List.{flat_map}
use Rattle.mh_rules.specs.declared.modules.Rule.{Rule}
use Rattle.mh_join_names.specs.declared.kinds.NameKind.TheVariants as kinds
use Rattle.mh_join_names.specs.Faults.{other_kind}
use Rattle.mh_join_names.specs.code.SymbolTables.{meanings_in}
use Rattle.mh_join_faults.proofs.duplicates.check_rule_kinds.Given as goal

abbrev pub invariant-loop-rule : goal.invariant-loop-rule
invariant-loop-rule l = flat_map (λ (r : Rule). other_kind (meanings_in l.names) kinds.Rule r.name) (drop l.rule-index l.rules) ≡ flat_map (λ (r : Rule). other_kind (meanings_in l.names) kinds.Rule r.name) l.rules
