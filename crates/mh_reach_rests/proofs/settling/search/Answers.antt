use Rattle.std.proofs.Common.{◌≡◌, ◌≤◌, ◌+◌, refl, arith}
use Rattle.mh_facts.specs.Costs.{cap}
use Rattle.mh_reach_rests.proofs.WholeSearch.{search_done, search_ends}
use Rattle.mh_reach_rests.proofs.settling.search.Goals as goal

pub loop-cost-init : goal.loop-cost-init
loop-cost-init c = c.in_ok-found.ensures

pub settle_level-requires-clause-sources : goal.settle_level-requires-clause-sources
settle_level-requires-clause-sources c = rw c.as_slice.ensures.value c.in_ok-sources.ensures

pub returns : goal.returns
returns c = let e : c.loop-cost.cost ≡ cap + 1 = (let a = c.loop-cost-test.false in let b = c.loop-cost.auto.cost-end in omega arith) in search_ends c.args.table.now c.args.classes.now c.loop-cost.found (rw e at c.loop-cost.invariant)

pub returns-then-is_done : goal.returns-then-is_done
returns-then-is_done c =
    let le : c.loop-cost.cost ≤ cap + 1 = (let a = c.loop-cost.auto.cost-end in omega arith) in
    search_done c.args.table.now c.args.classes.now c.loop-cost.found c.loop-cost.cost c.loop-cost.invariant le (c.if-is_done.ensures.0 refl)
