use Rattle.std.proofs.Common.{ℕ, zero, subst, sym}
use Rattle.std.proofs.lemmas.Result.{on_ok_weaker}
use Rattle.mh_facts.specs.code.Queues.{QueueGains}
use Rattle.mh_reach_rests.specs.code.RestRules.{IsConcludedAt}
use Rattle.mh_reach_rests.proofs.ConcludedItems.{rest_concluded}
use Rattle.mh_reach_rests.proofs.conclusions.conclude.Goals as goal

pub returns-then-conclusion-eq0 : goal.returns-then-conclusion-eq0
returns-then-conclusion-eq0 c =
    let t = c.args.table.now in
    let k = c.args.conclusion in
    on_ok_weaker c.conclude_gotos.result
    (λ (h : QueueGains (IsConcludedAt t c.args.classes.now k zero) c.args.queue.now.buckets.items c.conclude_gotos.new.queue.buckets.items). subst (λ (d : ℕ). QueueGains (IsConcludedAt t c.args.classes.now k d) c.args.queue.now.buckets.items c.conclude_gotos.new.queue.buckets.items) (sym c.if-conclusion-eq0.true) h)
    c.conclude_gotos.ensures

pub returns : goal.returns
returns c = on_ok_weaker c.push.result (rest_concluded c.args.table.now c.args.classes.now c.args.conclusion c.args.conclusion.key.dot c.if-conclusion-eq0.false c.args.queue.now.buckets.items c.push.new.queue.buckets.items) c.push.ensures
