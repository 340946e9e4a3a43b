use Rattle.std.proofs.Common.{rules}
use Rattle.mh_resolve_cells.proofs.AreResolved.{kernel_is_item_list}
use Rattle.mh_lint_states.proofs.ClosedStates.{closed_is}
use Rattle.mh_lint_states.proofs.states.close_state.Goals as goal

pub close-requires : goal.close-requires
close-requires g c = (search rules, (search rules, (c.requires.fits, (c.requires.closer, kernel_is_item_list c.args.grammar.now c.args.automaton.now c.requires.automaton c.args.number c.index.result.now c.requires.state c.index.ensures))))

pub returns-clause-state : goal.returns-clause-state
returns-clause-state g c = closed_is c.args.grammar.now c.args.automaton.now c.args.number c.index.result.now c.in_ok-closed.closed c.requires.state c.index.ensures c.in_ok-closed.ensures.kernel c.in_ok-closed.ensures.exact
