use Rattle.std.proofs.Common.{◌≤◌, ◌+◌, [], arith, length}
use Rattle.mh_facts.specs.Costs.{cap}
use Rattle.mh_reach_spots.proofs.SpotInvariant.{least_arrivals, none_over}
use Rattle.mh_reach_spots.proofs.arriving.arrive_all.Goals as goal

pub loop-cost-init : goal.loop-cost-init
loop-cost-init c = c.requires.before

-- The queue has no bucket left.
pub returns-then-buckets-cost : goal.returns-then-buckets-cost
returns-then-buckets-cost c =
    let g = c.loop-cost.invariant in
    let q = c.loop-cost.second.queue.buckets.items in
    let over : length q ≤ c.loop-cost.cost = (let a = c.if-buckets-cost.true in let b = c.len-buckets.ensures in omega arith) in
    least_arrivals c.args.table.now c.facts.ensures c.args.classes.now c.requires.classes g.found.gotos g.found.least c.loop-cost.second.spots q c.loop-cost.cost [] g.invariant
    (λ cost o h. none_over q c.loop-cost.cost cost o over (g.invariant.at_least_level cost o h) h)

pub returns : goal.returns
returns c =
    let g = c.loop-cost.invariant in
    let q = c.loop-cost.second.queue.buckets.items in
    let level : cap + 1 ≤ c.loop-cost.cost = (let a = c.loop-cost-test.false in omega arith) in
    least_arrivals c.args.table.now c.facts.ensures c.args.classes.now c.requires.classes g.found.gotos g.found.least c.loop-cost.second.spots q c.loop-cost.cost [] g.invariant
    (λ cost o h. (let low = g.invariant.at_least_level cost o h in let few = (g.invariant.items cost o h).few in omega arith))
