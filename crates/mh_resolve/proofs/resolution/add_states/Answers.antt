use Rattle.std.proofs.Common.{◌≡◌, ◌<◌, length, arith, refl, rules}
use Rattle.mh_resolve_cells.proofs.AreResolved.{kernel_is_item_list, edges_known, edges_rise, first_states_more, all_resolved, Facts-resolved, none_collected, collected_more, IsCellRow-state_of, all_collected}
use Rattle.mh_resolve.proofs.resolution.add_states.Goals as goal

pub loop-state-init : goal.loop-state-init
loop-state-init g c = (
  rw c.requires.none (record { count = refl; each = λ s l. absurd (omega arith) }),
  rw c.requires.no_conflicts (none_collected c.args.grammar.now c.args.automaton.now),
  c.requires.closer,
)

pub resolve_state-requires : goal.resolve_state-requires
resolve_state-requires g c =
    let automaton = c.args.automaton.now in
    let within : c.loop-state.state < length automaton.kernels = (let n = c.len-state-end.ensures in omega arith) in
    let kernel = kernel_is_item_list c.args.grammar.now automaton c.requires.automaton c.loop-state.state c.index-kernel.result.now within c.index-kernel.ensures in
    let rising = edges_rise c.args.grammar.now automaton c.requires.automaton c.loop-state.state c.as_slice-edges.result.now c.index.result.now within c.index.ensures c.as_slice-edges.ensures in
    let known = edges_known c.args.grammar.now automaton c.requires.fits.range c.requires.automaton c.loop-state.state c.as_slice-edges.result.now c.index.result.now within c.index.ensures c.as_slice-edges.ensures in
    (search rules, (search rules, (c.requires.fits, record { closer = c.loop-state.invariant.2; kernel = kernel; rising = rising; known = known })))

pub add_conflicts-requires : goal.add_conflicts-requires
add_conflicts-requires g c =
    let len = c.in_ok-resolved.ensures.row.cells.len in
    let few = c.requires.fits.range.tokens in
    omega arith

pub loop-state-preserved : goal.loop-state-preserved
loop-state-preserved g c =
    let n = c.len-state-end.ensures in (
      first_states_more c.args.grammar.now c.args.automaton.now c.requires.automaton c.args.mode c.loop-state.state c.index-kernel.result.now c.as_slice-edges.result.now c.index.result.now (omega arith) c.index-kernel.ensures c.index.ensures c.as_slice-edges.ensures
          c.in_ok-resolved.resolved.parts c.in_ok-resolved.ensures.parts c.loop-state.found.states.items c.push.new.self.items c.in_ok-push.ensures.items c.loop-state.invariant.0,
      collected_more c.args.grammar.now c.args.automaton.now c.loop-state.state c.in_ok-resolved.resolved.row.cells c.in_ok-resolved.resolved.row.last c.in_ok-resolved.resolved.row.stream
          (IsCellRow-state_of c.args.grammar.now c.args.automaton.now c.requires.automaton c.loop-state.state c.index-kernel.result.now c.as_slice-edges.result.now c.index.result.now (omega arith) c.index-kernel.ensures c.index.ensures c.as_slice-edges.ensures _ _ _ c.in_ok-resolved.ensures.row)
          c.loop-state.found.conflicts.items _ c.in_ok-add_conflicts.ensures c.loop-state.invariant.1,
      c.in_ok-resolved.ensures.closer,
    )

pub returns-clause-facts : goal.returns-clause-facts
returns-clause-facts g c =
    let n = c.len-state-end.ensures in
    let e : c.loop-state.state ≡ length c.args.automaton.now.kernels = omega arith in
    Facts-resolved c.args.grammar.now c.args.automaton.now c.args.mode c.loop-state.found.states.items c.requires.fits.range c.requires.costs c.requires.automaton (all_resolved c.args.grammar.now c.args.automaton.now c.args.mode c.loop-state.state c.loop-state.found.states.items e c.loop-state.invariant.0)

pub returns-clause-conflicts : goal.returns-clause-conflicts
returns-clause-conflicts g c =
    let n = c.len-state-end.ensures in
    let e : c.loop-state.state ≡ length c.args.automaton.now.kernels = omega arith in
    all_collected c.args.grammar.now c.args.automaton.now c.loop-state.state _ e c.loop-state.invariant.1

pub returns-clause-states : goal.returns-clause-states
returns-clause-states g c =
    let n = c.len-state-end.ensures in
    let e : c.loop-state.state ≡ length c.args.automaton.now.kernels = omega arith in
    all_resolved c.args.grammar.now c.args.automaton.now c.args.mode c.loop-state.state c.loop-state.found.states.items e c.loop-state.invariant.0
