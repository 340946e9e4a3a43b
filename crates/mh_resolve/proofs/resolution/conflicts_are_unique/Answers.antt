use Rattle.mh_resolve_cells.proofs.OneResolution.{conflicts_once}
use Rattle.mh_resolve.proofs.resolution.conflicts_are_unique.Goals as goal

pub returns : goal.returns
returns g c = conflicts_once c.args.grammar.now c.args.automaton.now c.args.left.now c.args.right.now c.requires.left c.requires.right
