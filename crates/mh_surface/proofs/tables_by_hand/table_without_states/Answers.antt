use Rattle.mh_surface.proofs.TableWithoutStates.{facts}
use Rattle.mh_surface.proofs.tables_by_hand.table_without_states.Goals as goal

pub table_of-requires : goal.table_of-requires
table_of-requires c = rw c.new.ensures.items (facts c.args.grammar.now c.requires.range c.requires.costs c.requires.starts)
