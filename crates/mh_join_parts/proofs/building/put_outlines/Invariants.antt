use Rattle.std.proofs.Common.{◌≡◌, map, take}
use Rattle.mh_join_names.specs.Joining.{rule_of_outline}
use Rattle.mh_join_names.specs.code.SymbolTables.{elsewhere_in}
use Rattle.mh_join_parts.proofs.building.put_outlines.Given as goal

abbrev pub invariant-loop-outline : goal.invariant-loop-outline
invariant-loop-outline l = l.rules.items ≡ map (rule_of_outline (elsewhere_in l.names)) (take l.outline-index l.outline-items)
