use Rattle.std.proofs.Common.{take}
use Rattle.std.specs.List.{flat_map, enumerate_from}
use Rattle.std.specs.HashMap.{get}
use Rattle.mh_join_names.specs.Names.{same, levels_in}
use Rattle.mh_join_names.specs.code.Insertions.{InsertsNew}
use Rattle.mh_join_parts.proofs.levels.put_levels.Given as goal

abbrev pub invariant-loop-at : goal.invariant-loop-at
invariant-loop-at l = InsertsNew l.initial.levels (flat_map (levels_in (λ a. get same l.aliases a)) (enumerate_from 1 (take l.at l.files))) l.levels
