use Rattle.std.proofs.Common.{arith, rules}
use Rattle.std.proofs.lemmas.Result.{on_ok_weaker}
use Rattle.mh_grammar.specs.Plain.{plain_of}
use Rattle.mh_canon.specs.Limits.{max_states}
use Rattle.mh_pager.specs.code.Worklist.{merge_state_of}
use Rattle.mh_pager.proofs.IsMerged.{starts_within, AreTargetsInRange-list, IsMerged-list, few_list}
use Rattle.mh_pager.proofs.IsReachedByMerging.{is_well_formed}
use Rattle.mh_pager.proofs.merging.fill.Goals as goal

pub kept_first-requires : goal.kept_first-requires
kept_first-requires g c =
    let ready = is_well_formed (plain_of c.args.grammar.now) (merge_state_of c.args.worklist.now) c.requires.list in
    let within = starts_within (plain_of c.args.grammar.now) (merge_state_of c.args.worklist.now) c.requires.list c.requires.done in
    rw c.len-starts.ensures (omega (arith, within, ready.len, c.requires.few))

pub reach-requires-clause-starts : goal.reach-requires-clause-starts
reach-requires-clause-starts g c = rw (c.as_slice-rows.ensures.value, c.len-starts.ensures) (starts_within (plain_of c.args.grammar.now) (merge_state_of c.args.worklist.now) c.requires.list c.requires.done)

pub reach-requires-clause-few : goal.reach-requires-clause-few
reach-requires-clause-few g c =
    let ready = is_well_formed (plain_of c.args.grammar.now) (merge_state_of c.args.worklist.now) c.requires.list in
    rw c.as_slice-rows.ensures.value (omega (arith, ready.len, c.requires.few))

pub reach-requires-clause-closed : goal.reach-requires-clause-closed
reach-requires-clause-closed g c = rw c.as_slice-rows.ensures.value (AreTargetsInRange-list (plain_of c.args.grammar.now) (merge_state_of c.args.worklist.now) c.requires.list c.requires.done)

pub pick-requires : goal.pick-requires
pick-requires g c =
    let ready = is_well_formed (plain_of c.args.grammar.now) (merge_state_of c.args.worklist.now) c.requires.list in
    let r = rw (c.as_slice-rows.ensures.value, c.len-starts.ensures) at c.in_ok-reach.ensures in
    (search rules, (c.requires.fits.few, (rw (c.as_slice.ensures.keys, c.as_slice-kernels.ensures.value, ← ready.len) r.below, c.requires.no_kernels)))

pub returns-clause-ok : goal.returns-clause-ok
returns-clause-ok g c =
    let g = plain_of c.args.grammar.now in
    let w = merge_state_of c.args.worklist.now in
    let r = rw (c.as_slice-rows.ensures.value, c.len-starts.ensures) at c.in_ok-reach.ensures in
    let picked = rw (c.as_slice-kernels.ensures.value, c.as_slice.ensures.keys) at c.pick.ensures in
    on_ok_weaker c.pick.result (IsMerged-list g w c.requires.list c.requires.done (record { kernels = c.pick.new.all; edges = c.reach.new.edges }) c.reach.new.states.keys r) picked

pub returns-clause-few : goal.returns-clause-few
returns-clause-few g c =
    let g = plain_of c.args.grammar.now in
    let w = merge_state_of c.args.worklist.now in
    let r = rw (c.as_slice-rows.ensures.value, c.len-starts.ensures) at c.in_ok-reach.ensures in
    let picked = rw (c.as_slice-kernels.ensures.value, c.as_slice.ensures.keys) at c.pick.ensures in
    on_ok_weaker c.pick.result (λ z. few_list g w c.requires.list c.requires.done (record { kernels = c.pick.new.all; edges = c.reach.new.edges }) c.reach.new.states.keys r z max_states c.requires.few) picked
