use Rattle.mh_resolve.proofs.IsResolved.{row_is, known_is}
use Rattle.mh_resolve_settle.proofs.AreCells.{cells_are, last_is}
use Rattle.mh_resolve.proofs.states.row_of.Goals as goal

pub returns : goal.returns
returns g c =
    let shifts = rw c.len.ensures at c.in_ok-shifts.ensures in
    let tallied = rw c.as_slice.ensures.value at c.in_ok-tallies.ensures in
    let settled = rw (c.as_slice-2.ensures.value, c.as_slice-3.ensures.value) at c.in_ok-cells.ensures in
    let cells = cells_are c.args.grammar.now c.as_slice-items.result.now c.args.state.now.edges.now c.in_ok-shifts.shifts.items c.in_ok-tallies.tallies c.in_ok-cells.cells.items shifts tallied settled in
    let last = last_is c.args.grammar.now c.as_slice-items.result.now c.args.state.now.edges.now c.in_ok-shifts.shifts.items c.in_ok-tallies.tallies c.cell_of-last.result tallied c.cell_of-last.ensures in
    let known = known_is c.args.grammar.now c.args.state.now.kernel.now c.args.state.now.closed.now c.args.state.now.edges.now c.requires.kernel c.requires.exact c.requires.known in
    row_is c.args.grammar.now c.args.state.now.kernel.now c.args.state.now.closed.now c.args.state.now.edges.now c.requires.exact known c.as_slice-items.result.now c.as_slice-items.ensures c.in_ok-cells.cells.items c.as_slice-4.result.now c.from_vec.result c.cell_of-last.result c.is_stream_conflict-stream.result
    cells last c.as_slice-4.ensures.value c.from_vec.ensures c.is_stream_conflict-stream.ensures
