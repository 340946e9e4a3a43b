use Rattle.std.proofs.Common.{◌<◌, ap, sym, ◌∙◌, arith, length}
use Rattle.std.specs.Global.{Vec}
use Rattle.mh_facts.proofs.QueueRows.{takes_last_item}
use Rattle.mh_facts.proofs.queue.take.Goals as goal

pub returns : goal.returns
returns g c =
    let lt : c.args.cost < length c.args.queue.now.buckets.items = (let a = c.if-cost-len.false in let b = c.len.ensures in omega arith) in
    takes_last_item c.args.queue.now.buckets.items c.args.cost _ c.pop.new.self c.pop.result lt (sym (ap (λ (v : Vec _). v.items) c.index_mut.ensures.value) ∙ c.pop.ensures.items)
    (λ has. c.pop.ensures.variant.1 (let o = c.index_mut.result.now.ok in let e = ap (λ (v : Vec _). length v.items) c.index_mut.ensures.value in omega (arith, has, o.0, e)))
