use Rattle.std.proofs.Common.{◌≡◌, ◌<◌, length, arith}
use Rattle.std.proofs.lemmas.Option.{slice_get-get_or}
use Rattle.mh_reach_spots.proofs.SpotNumbers.{none_paired, paired_more}
use Rattle.mh_reach_spots.proofs.numbering.paired.Goals as goal

pub loop-place-init : goal.loop-place-init
loop-place-init c = rw c.new-pairs.ensures.items (none_paired c.args.all.now c.args.numbers.now)

pub loop-place-preserved : goal.loop-place-preserved
loop-place-preserved c =
    let lt : c.loop-place.place < length c.args.numbers.now = (let a = c.loop-place-test.true in let b = c.requires in omega arith) in
    rw c.in_ok-push.ensures.items (paired_more c.args.all.now c.args.numbers.now c.loop-place.place c.loop-place.pairs.items _ _ c.loop-place.invariant (slice_get-get_or c.args.all.now c.loop-place.place _ c.loop-place-test.true) (slice_get-get_or c.args.numbers.now c.loop-place.place _ lt))

pub returns : goal.returns
returns c =
    let e : c.loop-place.place ≡ length c.args.all.now = (let a = c.loop-place-test.false in let b = c.loop-place.auto.place-end in omega arith) in
    rw e at c.loop-place.invariant
