use Rattle.std.proofs.Common.{◌≡◌, Some, length, Err, ap, refl, arith, rules}
use Rattle.std.specs.List.{slice_get}
use Rattle.std.proofs.lemmas.Option.{slice_get_read}
use Rattle.mh_grammar.specs.Plain.{plain_of}
use Rattle.mh_grammar.proofs.Lists.{contains_here}
use Rattle.mh_items_kernels.specs.Collection.{targets_of}
use Rattle.mh_items_kernels.specs.declared.kernels.StatesFault.TheVariants.{TooManyStates}
use Rattle.mh_canon.specs.Limits.{max_states}
use Rattle.mh_pager.specs.code.MergeStep.{with_oldest}
use Rattle.mh_pager.specs.code.Worklist.{merge_state_of}
use Rattle.mh_pager.proofs.StepsAreUnique.{all_put_longer}
use Rattle.mh_pager.proofs.IsWellFormed.{rest_well_formed}
use Rattle.mh_pager.proofs.IsPlacedRow.{merge_step_of_row, step_exceeds, row_ready}
use Rattle.mh_pager.proofs.PlacesAllMoves.{symbols_in}
use Rattle.mh_pager.proofs.stepping.step.Goals as goal

pub index-requires : goal.index-requires
index-requires g c =
    let l = c.requires.ready.queued c.args.state (contains_here c.args.state c.args.worklist.now.queue.states.items) in
    omega (arith, l, c.args.worklist.now.kernels.ok.0)

pub moves-requires : goal.moves-requires
moves-requires g c =
    let k = c.index.result.now in
    let kernels = c.args.worklist.now.kernels.items in
    let l = c.requires.ready.queued c.args.state (contains_here c.args.state c.args.worklist.now.queue.states.items) in
    let at : slice_get kernels c.args.state ≡ Some k = slice_get_read kernels (length kernels) c.args.state k refl l c.index.ensures in
    (search rules, (search rules, (c.requires.fits, (c.requires.mover, c.requires.ready.valid c.args.state k at))))

pub put_all-requires : goal.put_all-requires
put_all-requires g c =
    let of = c.in_ok-moves.ensures.moves in
    let ready = rest_well_formed (plain_of c.args.grammar.now) c.args.worklist.now.kernels.items c.args.worklist.now.rows.items c.args.state c.args.worklist.now.queue.states.items c.requires.ready in
    (search rules, (search rules, (c.requires.fits, ((of.closed, of.valid, of.are), (ready, (c.requires.few, c.requires.kept))))))

pub index_mut-requires : goal.index_mut-requires
index_mut-requires g c =
    let of = c.in_ok-moves.ensures.moves in
    let old = merge_state_of c.args.worklist.now in
    let new = merge_state_of c.put_all.new.worklist in
    let l = c.requires.ready.queued c.args.state (contains_here c.args.state c.args.worklist.now.queue.states.items) in
    let ready = rest_well_formed (plain_of c.args.grammar.now) c.args.worklist.now.kernels.items c.args.worklist.now.rows.items c.args.state c.args.worklist.now.queue.states.items c.requires.ready in
    let r = c.in-Ok.ensures.ok of.closed of.valid of.are in
    let symbols = symbols_in c.in_ok-moves.moves.items in
    let longer = all_put_longer (plain_of c.args.grammar.now) c.index.result.now symbols (targets_of c.in-Ok.row) old new (r.moves_placed c.index.result.now of.same) in
    let after = row_ready (plain_of c.args.grammar.now) c.index.result.now of.closed of.same symbols c.in-Ok.row old new r ready in
    omega (arith, l, longer, after.len, c.put_all.new.worklist.rows.ok.0)

pub returns-in-Ok-clause-ok : goal.returns-in-Ok-clause-ok
returns-in-Ok-clause-ok g c =
    let k = c.index.result.now in
    let kernels = c.args.worklist.now.kernels.items in
    let l = c.requires.ready.queued c.args.state (contains_here c.args.state c.args.worklist.now.queue.states.items) in
    let at : slice_get kernels c.args.state ≡ Some k = slice_get_read kernels (length kernels) c.args.state k refl l c.index.ensures in
    let of = c.in_ok-moves.ensures.moves in
    merge_step_of_row (plain_of c.args.grammar.now) k of.closed of.valid of.same (symbols_in c.in_ok-moves.moves.items) of.are.rising of.are.exact (with_oldest c.args.worklist.now c.args.state) c.args.state c.args.worklist.now.queue.states.items refl at c.in-Ok.row (merge_state_of c.put_all.new.worklist) (c.in-Ok.ensures.ok of.closed of.valid of.are)

pub returns-in-Err-clause-exceeds : goal.returns-in-Err-clause-exceeds
returns-in-Err-clause-exceeds g c same =
    let k = c.index.result.now in
    let kernels = c.args.worklist.now.kernels.items in
    let l = c.requires.ready.queued c.args.state (contains_here c.args.state c.args.worklist.now.queue.states.items) in
    let at : slice_get kernels c.args.state ≡ Some k = slice_get_read kernels (length kernels) c.args.state k refl l c.index.ensures in
    let of = c.in_ok-moves.ensures.moves in
    let fault : c.in-Err.fault ≡ TooManyStates = cc in
    step_exceeds (plain_of c.args.grammar.now) k of.closed of.valid of.same (symbols_in c.in_ok-moves.moves.items) of.are.rising of.are.exact (with_oldest c.args.worklist.now c.args.state) c.args.state c.args.worklist.now.queue.states.items refl at max_states (c.in-Err.ensures.exceeds (ap Err fault) of.closed of.valid of.are)

pub returns-in-Ok-clause-kept : goal.returns-in-Ok-clause-kept
returns-in-Ok-clause-kept g c =
    let kept = c.in-Ok.ensures.kept in
    record { flagged = kept.flagged; flags = kept.flags; indexed = kept.indexed }

pub returns-in-Ok-clause-exceeds : goal.returns-in-Ok-clause-exceeds
returns-in-Ok-clause-exceeds g c same = cc
