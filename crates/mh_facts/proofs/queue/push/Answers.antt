use Rattle.std.proofs.Common.{◌<◌, refl, ap, ◌∙◌, ◌++◌, ◌∷◌, [], arith, length}
use Rattle.std.specs.Global.{Vec}
use Rattle.mh_facts.proofs.QueueRows.{adds_to_row, QueueGains-added}
use Rattle.mh_facts.proofs.queue.push.Goals as goal

pub returns : goal.returns
returns g c =
    let lt : c.args.cost < length c.buckets.queue.buckets.items = (let a = c.buckets-test.false in let b = c.len.ensures in omega arith) in
    QueueGains-added c.args.queue.now.buckets.items c.buckets.queue.buckets.items _ c.args.cost c.args.item c.buckets.invariant
    (adds_to_row c.buckets.queue.buckets.items _ c.args.cost _ c.push-2.new.self lt refl c.args.item (c.in_ok-push-2.ensures.items ∙ ap (λ (v : Vec _). v.items ++ c.args.item ∷ []) c.index_mut.ensures.value))
