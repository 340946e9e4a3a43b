use Rattle.std.proofs.Common.{◌<◌, length, arith}
use Rattle.mh_resolve_cells.proofs.AreResolved.{edges_are, edges_rise}
use Rattle.mh_lint_states.proofs.ClosedStates.{shifts_is}
use Rattle.mh_lint_states.proofs.conflicts.can_shift.Goals as goal

pub find_edge-requires : goal.find_edge-requires
find_edge-requires g c = edges_rise c.args.grammar.now c.args.automaton.now c.requires.automaton c.args.state c.as_slice.result.now c.index.result.now c.requires.state c.index.ensures c.as_slice.ensures

pub returns-in-Token : goal.returns-in-Token
returns-in-Token g c =
    let within : c.args.state < length c.args.automaton.now.edges = omega (arith, c.requires.state, c.requires.automaton.rows) in
    let edges = edges_are c.args.automaton.now c.args.state c.as_slice.result.now c.index.result.now within c.index.ensures c.as_slice.ensures in
    shifts_is c.args.grammar.now c.args.automaton.now c.args.state c.as_slice.result.now c.args.look c.in-Token.token c.find_edge.result c.is_some.result edges c.in-Token.is c.find_edge.ensures c.is_some.ensures
