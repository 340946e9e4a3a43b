use Rattle.std.proofs.Common.{◌≡◌, drop}
use Rattle.std.specs.List.{flat_map}
use Rattle.mh_rules.specs.declared.modules.Alternative.{Alternative}
use Rattle.mh_join_names.specs.Faults.{unlevelled}
use Rattle.mh_join_names.specs.code.SymbolTables.{meanings_in}
use Rattle.mh_join_faults.proofs.errors.check_rule_precs.Given as goal

abbrev pub invariant-loop-alternative : goal.invariant-loop-alternative
invariant-loop-alternative l = flat_map (λ (a : Alternative). unlevelled (meanings_in l.names) a.prec) (drop l.alternative-index l.alternative-items) ≡ flat_map (λ (a : Alternative). unlevelled (meanings_in l.names) a.prec) l.alternative-items
