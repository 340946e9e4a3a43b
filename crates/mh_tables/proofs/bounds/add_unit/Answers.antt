use Rattle.mh_tables_core.proofs.SymbolsInRange.{symbol_below, left_below}
use Rattle.mh_tables.proofs.bounds.add_unit.Goals as goal

pub place_of-from-requires : goal.place_of-from-requires
place_of-from-requires c = symbol_below c.args.table.now.grammar c.facts.ensures.ranges.grammar c.args.production 0 _ c.symbol_of.ensures

pub place_of-to-requires : goal.place_of-to-requires
place_of-to-requires c = rw c.lhs_of.ensures (left_below c.args.table.now.grammar c.facts.ensures.ranges.grammar c.args.production c.requires.ordinary c.requires.production)
