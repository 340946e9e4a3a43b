use Rattle.mh_resolve_cells.proofs.ActsCompletely.{none_listed, none_there}
use Rattle.mh_resolve.proofs.resolution.conflicts_are_complete.Goals as goal

pub returns : goal.returns
returns g c = (λ e. none_there c.args.grammar.now c.args.automaton.now (rw e at c.requires), λ h. none_listed c.args.grammar.now c.args.automaton.now c.args.conflicts.now c.requires h)
