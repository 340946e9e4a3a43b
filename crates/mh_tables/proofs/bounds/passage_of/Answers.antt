use Rattle.mh_tables_core.specs.Halting.{look_list}
use Rattle.mh_tables_core.proofs.SymbolsInRange.{left_below}
use Rattle.mh_tables.proofs.BoundsProveHalting.{passed_below}
use Rattle.mh_tables.proofs.bounds.passage_of.Goals as goal

pub place_of-requires : goal.place_of-requires
place_of-requires c = rw c.lhs_of.ensures (left_below c.args.table.now.grammar c.facts.ensures.ranges.grammar c.in-Some.production c.in-Some.ensures.0 c.in-Some.ensures.1)

pub place_of-requires-in-Passes : goal.place_of-requires-in-Passes
place_of-requires-in-Passes c = passed_below c.args.table.now c.facts.ensures (look_list c.args.look) c.deref.result.now c.in-Passes.nonterminal c.in-Passes.ensures
