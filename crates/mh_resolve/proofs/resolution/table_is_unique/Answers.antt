use Rattle.mh_resolve_cells.proofs.OneResolution.{one_table}
use Rattle.mh_resolve.proofs.resolution.table_is_unique.Goals as goal

pub returns : goal.returns
returns g c = one_table c.args.grammar.now c.args.automaton.now c.args.mode c.args.left.now c.args.right.now c.requires.left c.requires.right
