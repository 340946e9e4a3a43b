use Rattle.mh_lint_states.proofs.TwoReductions.{two_reductions}
use Rattle.mh_lint_states.proofs.conflicts.can_reduce_two.Goals as goal

pub returns : goal.returns
returns g c = two_reductions c.args.grammar.now c.args.automaton.now c.args.state.now.number c.args.state.now.closed c.args.look c.as_slice.result.now c.has_two_on.result c.requires.state c.as_slice.ensures c.has_two_on.ensures
