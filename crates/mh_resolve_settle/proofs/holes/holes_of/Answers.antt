use Rattle.std.proofs.Common.{◌≡◌, ◌<◌, length, sym, arith}
use Rattle.mh_resolve_cells.specs.code.LookTallies.{AreShifts}
use Rattle.mh_resolve_settle.proofs.AreHoles.{AreMarked, holes_are}
use Rattle.mh_resolve_cells.proofs.AreResolved.{edges_are, edges_known, edges_rise}
use Rattle.mh_resolve_settle.proofs.holes.holes_of.Goals as goal

pub shifts_of-requires-clause-rising : goal.shifts_of-requires-clause-rising
shifts_of-requires-clause-rising g c =
    edges_rise c.args.grammar.now c.args.automaton.now c.requires.automaton c.args.state c.as_slice-edges.result.now c.index.result.now c.requires.state c.index.ensures c.as_slice-edges.ensures

pub shifts_of-requires-clause-known : goal.shifts_of-requires-clause-known
shifts_of-requires-clause-known g c = λ z j e.
    rw c.len.ensures (edges_known c.args.grammar.now c.args.automaton.now c.requires.range c.requires.automaton c.args.state c.as_slice-edges.result.now c.index.result.now c.requires.state c.index.ensures c.as_slice-edges.ensures z j e)

pub returns : goal.returns
returns g c =
    let tokens = length c.args.grammar.now.tokens in
    let shifts = c.in_ok-shifts.shifts.items in
    let within : c.args.state < length c.args.automaton.now.edges = omega (arith, c.requires.state, c.requires.automaton.rows) in
    let same = edges_are c.args.automaton.now c.args.state c.as_slice-edges.result.now c.index.result.now within c.index.ensures c.as_slice-edges.ensures in
    let are : AreShifts tokens c.as_slice-edges.result.now shifts = rw c.len.ensures at c.in_ok-shifts.ensures in
    let all : c.loop-token.token ≡ tokens = omega (arith, are.len, c.len-token-end.ensures, c.in_ok-shifts.shifts.ok.0, c.loop-token-test.false, c.loop-token.auto.token-end) in
    let marked : AreMarked shifts c.args.table.now c.args.state tokens c.loop-token.holes.items = rw all at c.loop-token.invariant in
    holes_are c.args.grammar.now c.args.automaton.now c.requires.table.0 c.args.table.now c.args.state c.as_slice-edges.result.now shifts c.loop-token.holes.items c.requires.table.1 c.requires.state (sym same) are marked
