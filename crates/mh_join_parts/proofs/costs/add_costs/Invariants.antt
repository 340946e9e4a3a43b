use Rattle.std.proofs.Common.{take}
use Rattle.std.specs.List.{flat_map}
use Rattle.mh_join_names.specs.Names.{given_cost}
use Rattle.mh_join_names.specs.code.Insertions.{InsertsNew}
use Rattle.mh_join_parts.proofs.costs.add_costs.Given as goal

abbrev pub invariant-loop-token : goal.invariant-loop-token
invariant-loop-token l = InsertsNew l.initial.costs (flat_map given_cost (take l.token-index l.tokens)) l.costs
