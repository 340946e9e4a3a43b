use Rattle.std.proofs.Common.{◌≡◌, length, arith}
use Rattle.std.proofs.lemmas.Option.{slice_get-get_or}
use Rattle.mh_reach_rests.proofs.RestNumbers.{made_more, none_made}
use Rattle.mh_reach_rests.proofs.numbering.all_made.Goals as goal

pub loop-item-init : goal.loop-item-init
loop-item-init c = rw c.new-made.ensures.items (none_made c.args.table.now c.args.settled.now c.args.words.now c.args.items.now)

pub loop-item-preserved : goal.loop-item-preserved
loop-item-preserved c =
    rw c.in_ok-push.ensures.items (made_more c.args.table.now c.args.settled.now c.args.words.now c.args.items.now c.loop-item.item-index c.loop-item.made.items _ c.made_of.result c.loop-item.invariant (slice_get-get_or c.args.items.now c.loop-item.item-index _ c.loop-item-test.true) c.made_of.ensures)

pub returns : goal.returns
returns c =
    let e : c.loop-item.item-index ≡ length c.args.items.now = (let a = c.loop-item-test.false in let b = c.loop-item.auto.item-index-end in omega arith) in
    rw e at c.loop-item.invariant
