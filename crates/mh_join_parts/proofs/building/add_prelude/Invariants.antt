use Rattle.std.proofs.Common.{Some, take}
use Rattle.mh_join_names.specs.code.SymbolTables.{meanings_in}
use Rattle.mh_join_parts.proofs.AddsAlternatives.{AddsRules}
use Rattle.mh_join_parts.proofs.building.add_prelude.Given as goal

abbrev pub invariant-loop-rule : goal.invariant-loop-rule
invariant-loop-rule l = AddsRules (meanings_in l.names) (λ x. Some 0) 0 (take l.rule-index l.rules) l.initial.joined l.joined l.place
