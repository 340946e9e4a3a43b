use Rattle.std.proofs.Common.{take}
use Rattle.std.specs.List.{flat_map}
use Rattle.std.specs.HashMap.{get}
use Rattle.mh_join_names.specs.Names.{same, with_level, name_by}
use Rattle.mh_join_names.specs.code.Insertions.{InsertsNew}
use Rattle.mh_join_parts.proofs.levels.add_declaration.Given as goal

abbrev pub invariant-loop-reference : goal.invariant-loop-reference
invariant-loop-reference l = InsertsNew l.initial.levels (flat_map (λ r. with_level l.level (name_by (λ a. get same l.aliases a) r)) (take l.reference-index l.reference-items)) l.levels
