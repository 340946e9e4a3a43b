use Rattle.std.proofs.Common.{take}
use Rattle.std.specs.List.{flat_map}
use Rattle.mh_join_names.specs.Names.{given_cost}
use Rattle.mh_join_names.specs.code.Insertions.{InsertsNew}
use Rattle.mh_join_parts.proofs.costs.put_costs.Given as goal

abbrev pub invariant-loop-file : goal.invariant-loop-file
invariant-loop-file l = InsertsNew l.initial.costs (flat_map (λ m. flat_map given_cost m.tokens) (take l.file-index l.files)) l.costs
