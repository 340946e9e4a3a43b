use Rattle.std.proofs.Common.{take}
use Rattle.std.specs.List.{flat_map, enumerate_from}
use Rattle.mh_join_names.specs.Names.{definitions_in}
use Rattle.mh_join_parts.specs.code.CanJoin.{AddsAlternatives}
use Rattle.mh_join_names.specs.code.SymbolTables.{meanings_in}
use Rattle.mh_join_parts.proofs.building.add_files.Given as goal

abbrev pub invariant-loop-at : goal.invariant-loop-at
invariant-loop-at l = AddsAlternatives (meanings_in l.names) (flat_map (definitions_in l.names.starts.keys) (enumerate_from 1 (take l.at l.modules))) l.initial.joined l.joined
