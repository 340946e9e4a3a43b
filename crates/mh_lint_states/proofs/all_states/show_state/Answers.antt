use Rattle.std.proofs.Common.{◌<◌, length, arith}
use Rattle.mh_items_kernels.specs.Automaton.{edges_at}
use Rattle.mh_resolve_cells.specs.code.LookTallies.{AreShifts}
use Rattle.mh_resolve_cells.proofs.AreResolved.{edges_are, edges_known, edges_rise}
use Rattle.mh_lint_states.proofs.StateCompares.{state_pairs}
use Rattle.mh_lint_states.proofs.all_states.show_state.Goals as goal

pub index-requires : goal.index-requires
index-requires g c = let rows = c.requires.automaton.rows in let known = c.requires.state.is_state in omega (arith, rows, known)

pub shifts_of-requires-clause-rising : goal.shifts_of-requires-clause-rising
shifts_of-requires-clause-rising g c =
    edges_rise c.args.grammar.now c.args.automaton.now c.requires.automaton c.args.state.now.number c.as_slice-edges.result.now c.index.result.now c.requires.state.is_state c.index.ensures c.as_slice-edges.ensures

pub shifts_of-requires-clause-known : goal.shifts_of-requires-clause-known
shifts_of-requires-clause-known g c = λ z j e.
    rw c.len.ensures (edges_known c.args.grammar.now c.args.automaton.now c.requires.fits.range c.requires.automaton c.args.state.now.number c.as_slice-edges.result.now c.index.result.now c.requires.state.is_state c.index.ensures c.as_slice-edges.ensures z j e)

pub returns : goal.returns
returns g c =
    let grammar = c.args.grammar.now in
    let automaton = c.args.automaton.now in
    let state = c.args.state.now in
    let shifts = c.in_ok-shifts.shifts.items in
    let within : state.number < length automaton.edges = omega (arith, c.requires.state.is_state, c.requires.automaton.rows) in
    let same = edges_are automaton state.number c.as_slice-edges.result.now c.index.result.now within c.index.ensures c.as_slice-edges.ensures in
    let listed : AreShifts (length grammar.tokens) c.as_slice-edges.result.now shifts = rw c.len.ensures at c.in_ok-shifts.ensures in
    let are : AreShifts (length grammar.tokens) (edges_at automaton state.number) shifts = rw same listed in
    record {
      compared = state_pairs grammar automaton state.number state.closed shifts c.requires.state are c.args.shown.now.compared c.mark_state.new.compared (rw (c.as_slice.ensures.value, c.as_slice-2.ensures) at c.mark_state.ensures);
      reduced = c.mark_reduced.ensures;
      on_errors = c.mark_on_errors.ensures;
    }
