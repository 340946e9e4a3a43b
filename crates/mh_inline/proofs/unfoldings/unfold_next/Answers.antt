use Rattle.std.proofs.Common.{◌<◌, length, sym, ◌∙◌, arith, length-set}
use Rattle.std.proofs.lemmas.Option.{slice_get_within, get_or_from_slice_get}
use Rattle.std.proofs.lemmas.Result.{on_ok_weaker}
use Rattle.mh_grammar.proofs.Lists.{get_within}
use Rattle.mh_inline.proofs.UnfoldedInstances.{next_from}
use Rattle.mh_inline.proofs.LastUses.{order_within-slice_get, KnowsNeeded-more}
use Rattle.mh_inline.proofs.MovedUnfoldings.{lacks_kept, last_of, last_unneeded}
use Rattle.mh_inline.proofs.unfoldings.unfold_next.Goals as goal

pub last_use_of-moved-requires : goal.last_use_of-moved-requires
last_use_of-moved-requires c = order_within-slice_get c.args.expanded.now.instances c.args.sizing.now c.requires.sizing c.args.place c.number_at-number.result c.number_at-number.ensures

pub unfold_one-requires-clause-next : goal.unfold_one-requires-clause-next
unfold_one-requires-clause-next c = next_from c.args.expanded.now.instances c.args.sizing.now c.args.last.now c.args.known.now.items c.args.place c.number_at-number.result c.requires.sizing c.requires.last c.requires.known c.number_at-number.ensures

pub unfold_one-requires-clause-last : goal.unfold_one-requires-clause-last
unfold_one-requires-clause-last c = λ i at. last_of c.args.expanded.now.instances _ _ i.productions c.last_use_of-moved.result (c.last_use_of-moved.ensures i at)

pub index_mut-requires : goal.index_mut-requires
index_mut-requires c =
    let w = order_within-slice_get c.args.expanded.now.instances c.args.sizing.now c.requires.sizing c.args.place c.number_at-number.result c.number_at-number.ensures in
    let len = c.requires.known.len in
    let same = c.in_ok-all.ensures.known.len in
    omega arith

pub forget_inlined-requires-clause-number : goal.forget_inlined-requires-clause-number
forget_inlined-requires-clause-number c = order_within-slice_get c.args.expanded.now.instances c.args.sizing.now c.requires.sizing c.args.place c.number_at-number.result c.number_at-number.ensures

pub forget_inlined-requires-clause-known : goal.forget_inlined-requires-clause-known
forget_inlined-requires-clause-known c = length-set c.unfold_one.new.known.items c.number_at-number.result c.in_ok-all.all ∙ c.in_ok-all.ensures.known.len ∙ c.requires.known.len

pub forget_inlined-requires-clause-last : goal.forget_inlined-requires-clause-last
forget_inlined-requires-clause-last c = c.requires.last.len

pub returns : goal.returns
returns c =
    let is = c.args.expanded.now.instances in
    let order = c.args.sizing.now.order.items in
    let i = c.args.place in
    let n = c.number_at-number.result in
    let known = c.args.known.now.items in
    let last = c.args.last.now in
    let all = c.in_ok-all.all in
    let new = c.forget_inlined.new.known.items in
    let w = order_within-slice_get is c.args.sizing.now c.requires.sizing i n c.number_at-number.ensures in
    let len = c.requires.known.len in
    let within : n < length known = omega arith in
    let q = c.last_use_of-moved.result in
    let here = get_within is n w in
    let unneeded = last_unneeded is last i here.0.productions q (c.last_use_of-moved.ensures here.0 here.1) in
    on_ok_weaker c.forget_inlined.result (λ f. KnowsNeeded-more is order last known new i n all (slice_get_within order i n c.number_at-number.ensures) (sym (get_or_from_slice_get order i n 0 c.number_at-number.ensures)) within c.in_ok-all.ensures.unfoldings
    (lacks_kept last i n all known c.unfold_one.new.known.items new q within unneeded c.in_ok-all.ensures.known f) c.requires.known) c.forget_inlined.ensures
