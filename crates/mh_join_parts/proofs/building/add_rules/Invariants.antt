use Rattle.std.proofs.Common.{take}
use Rattle.mh_join_names.specs.Names.{owner_in}
use Rattle.mh_join_names.specs.code.SymbolTables.{meanings_in}
use Rattle.mh_join_parts.proofs.AddsAlternatives.{AddsRules}
use Rattle.mh_join_parts.proofs.building.add_rules.Given as goal

abbrev pub invariant-loop-rule : goal.invariant-loop-rule
invariant-loop-rule l = AddsRules (meanings_in l.names) (owner_in l.names.starts.keys l.file l.rules) l.file (take l.rule-index l.rules) l.initial.joined l.joined l.place
