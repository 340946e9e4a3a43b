use Rattle.std.proofs.Common.{take}
use Rattle.std.specs.List.{flat_map, enumerate_from}
use Rattle.std.specs.HashMap.{get}
use Rattle.mh_join_names.specs.Names.{same, levels_by}
use Rattle.mh_join_names.specs.code.Insertions.{InsertsNew}
use Rattle.mh_join_parts.proofs.levels.add_declarations.Given as goal

abbrev pub invariant-loop-rank : goal.invariant-loop-rank
invariant-loop-rank l = InsertsNew l.initial.levels (flat_map (levels_by (λ a. get same l.aliases a) l.file) (enumerate_from 0 (take l.rank l.declared))) l.levels
