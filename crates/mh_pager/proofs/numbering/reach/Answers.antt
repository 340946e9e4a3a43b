use Rattle.std.proofs.Common.{◌≡◌, ◌<◌, length, get_or, ap, ◌∙◌, arith}
use Rattle.std.proofs.lemmas.List.{length_push}
use Rattle.mh_pager.proofs.RenumberingInvariant.{RenumberingInvariant-start, RenumberingInvariant-step, AreReachedStates-done, next_state, next_row, below_few}
use Rattle.mh_pager.proofs.numbering.reach.Goals as goal

pub states-init : goal.states-init
states-init c = rw (c.requires.first, c.requires.none) (RenumberingInvariant-start c.args.starts c.args.rows.now c.requires.starts)

pub renamed-requires : goal.renamed-requires
renamed-requires c =
    let keys = c.states.states.keys in
    let i = c.len-in-states-2.result in
    let e : i ≡ length c.states.edges = c.len-in-states-2.ensures in
    let l : i < length keys = omega (arith, c.states-test.true, c.len.ensures, c.len-in-states.ensures.len, c.len-in-states-2.ensures) in
    let n = get_or c.as_slice.result.now i 0 in
    let at = next_state keys c.as_slice.result.now c.states.edges i c.as_slice.ensures.keys e l in
    let row = c.index-rows-state.result in
    record {
      count = length c.args.rows.now;
      few = c.requires.few;
      below = c.states.invariant.below;
      targets = rw c.as_slice-in-states.ensures (c.requires.closed.targets n row (next_row c.args.starts c.args.rows.now keys c.states.edges c.states.invariant n row at c.index-rows-state.is));
    }

pub states-smaller : goal.states-smaller
states-smaller c =
    let few = below_few (length c.args.rows.now) c.states.states.keys c.states.invariant.below in
    let longer = ap length c.in_ok-push.ensures.ok ∙ length_push c.states.edges c.in_ok-row.row in
    omega (arith, few, c.requires.few, c.states-test.true, c.len.ensures, c.len-in-states.ensures.len, longer)

pub states-preserved : goal.states-preserved
states-preserved c =
    let keys = c.states.states.keys in
    let i = c.len-in-states-2.result in
    let e : i ≡ length c.states.edges = c.len-in-states-2.ensures in
    let l : i < length keys = omega (arith, c.states-test.true, c.len.ensures, c.len-in-states.ensures.len, c.len-in-states-2.ensures) in
    let n = get_or c.as_slice.result.now i 0 in
    let at = next_state keys c.as_slice.result.now c.states.edges i c.as_slice.ensures.keys e l in
    let row = c.index-rows-state.result in
    let here = next_row c.args.starts c.args.rows.now keys c.states.edges c.states.invariant n row at c.index-rows-state.is in
    rw c.in_ok-push.ensures.ok (RenumberingInvariant-step c.args.starts c.args.rows.now keys c.states.edges c.states.invariant c.renamed.new.states.keys n row c.in_ok-row.row at here (c.requires.closed.targets n row here) (rw c.as_slice-in-states.ensures at c.in_ok-row.ensures))

pub returns : goal.returns
returns c = AreReachedStates-done c.args.starts c.args.rows.now c.states.states.keys c.states.edges c.states.invariant (omega (arith, c.states-test.false, c.len.ensures, c.len-in-states.ensures.len))
