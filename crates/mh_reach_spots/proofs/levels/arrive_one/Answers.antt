use Rattle.std.proofs.Common.{◌<◌, ◌++◌, ◌∷◌, [], arith, drop, inl, sym}
use Rattle.mh_reach_spots.specs.code.SpotLevels.{SpotsReady, TakesUnreached}
use Rattle.mh_reach_spots.proofs.SpotInvariant.{spot_settles}
use Rattle.mh_reach_spots.proofs.SpotLevels.{level_drained, level_pushed}
use Rattle.mh_reach_spots.proofs.Unreached.{unreached, unreached_less}
use Rattle.mh_reach_spots.proofs.levels.arrive_one.Goals as goal

pub turns-init : goal.turns-init
turns-init c =
    let g = c.requires.ready in
    let rest = drop 1 c.args.level.now.comings.now in
    let ready : SpotsReady c.args.table.now c.args.classes.now g.found.gotos c.args.second.now.spots.book c.args.second.now.spots.spots c.args.second.now.queue.buckets.items c.args.level.now.cost (c.first_of-first.result ∷ rest) = rw (sym c.first_of-first.ensures) g.ready in
    record {
      found = g.found;
      order = level_pushed c.args.table.now c.facts.ensures c.args.classes.now c.requires.classes g.found.gotos c.args.second.now.spots.book c.args.second.now.spots.spots c.args.second.now.queue.buckets.items c.args.level.now.cost c.push.new.queue.buckets.items c.first_of-first.result rest ready c.in_ok-push.ensures;
      below = g.below;
    }

pub returns-in-None : goal.returns-in-None
returns-in-None c =
    let g = c.turns.invariant in
    record {
      found = g.found;
      ready = level_drained c.args.table.now c.facts.ensures c.args.classes.now c.requires.classes g.found.gotos c.turns.second.spots.book c.turns.second.spots.spots c.turns.second.queue.buckets.items c.args.level.now.cost c.next_coming.new.queue.buckets.items c.first_of-first.result.sentence (drop 1 c.args.level.now.comings.now) g.order (rw c.in-None.is at c.next_coming.ensures);
      below = g.below;
    }

pub arrive_at-requires : goal.arrive_at-requires
arrive_at-requires c =
    let next : TakesUnreached c.turns.second.spots.spots c.turns.second.queue.buckets.items c.next_coming.new.queue.buckets.items c.args.level.now.cost c.in-Some.coming = rw c.in-Some.is at c.next_coming.ensures in
    next.fresh

pub queue_next-requires-clause-from : goal.queue_next-requires-clause-from
queue_next-requires-clause-from c =
    let next : TakesUnreached c.turns.second.spots.spots c.turns.second.queue.buckets.items c.next_coming.new.queue.buckets.items c.args.level.now.cost c.in-Some.coming = rw c.in-Some.is at c.next_coming.ensures in
    record { classes = c.requires.classes; state = (c.turns.invariant.order.invariant.items c.args.level.now.cost c.in-Some.coming (inl next.waited)).state; cost = c.requires.cost }

pub queue_next-requires-clause-next : goal.queue_next-requires-clause-next
queue_next-requires-clause-next c =
    let next : TakesUnreached c.turns.second.spots.spots c.turns.second.queue.buckets.items c.next_coming.new.queue.buckets.items c.args.level.now.cost c.in-Some.coming = rw c.in-Some.is at c.next_coming.ensures in
    (c.turns.invariant.order.invariant.items c.args.level.now.cost c.in-Some.coming (inl next.waited)).token

pub queue_next-requires-clause-rows : goal.queue_next-requires-clause-rows
queue_next-requires-clause-rows c = c.turns.invariant.found.filed.len

pub queue_next-requires-clause-few : goal.queue_next-requires-clause-few
queue_next-requires-clause-few c n w h = (c.turns.invariant.found.filed.each n w h).few

pub turns-preserved : goal.turns-preserved
turns-preserved c =
    let g = c.turns.invariant in
    let i = c.in-Some.coming in
    let n = c.first_of-first.result.sentence in
    let rest = drop 1 c.args.level.now.comings.now in
    let next : TakesUnreached c.turns.second.spots.spots c.turns.second.queue.buckets.items c.next_coming.new.queue.buckets.items c.args.level.now.cost i = rw c.in-Some.is at c.next_coming.ensures in
    let settled = spot_settles c.args.table.now c.facts.ensures c.args.classes.now c.requires.classes g.found.gotos c.turns.second.spots.book c.args.gotos.now g.found.filed c.turns.second.spots.spots c.turns.second.queue.buckets.items c.args.level.now.cost n rest g.order
    c.next_coming.new.queue.buckets.items c.queue_next.new.queue.buckets.items i next c.requires.cost c.in_ok-queue_next-in-Some.ensures in
    rw (c.in_ok-arrive_at-in-Some.ensures.spots, c.in_ok-arrive_at-in-Some.ensures.book) (record { found = g.found; order = settled; below = g.below })

pub turns-smaller : goal.turns-smaller
turns-smaller c =
    let i = c.in-Some.coming in
    let n = c.first_of-first.result.sentence in
    let next : TakesUnreached c.turns.second.spots.spots c.turns.second.queue.buckets.items c.next_coming.new.queue.buckets.items c.args.level.now.cost i = rw c.in-Some.is at c.next_coming.ensures in
    let ok = c.turns.invariant.order.invariant.items c.args.level.now.cost i (inl next.waited) in
    let few = c.facts.ensures.ranges.few_states in
    let tokens = c.facts.ensures.ranges.grammar.tokens in
    let less : unreached (c.turns.second.spots.spots ++ (i.spot, record { cost = c.args.level.now.cost; sentence = n }) ∷ []) < unreached c.turns.second.spots.spots =
    unreached_less c.turns.second.spots.spots i.spot (record { cost = c.args.level.now.cost; sentence = n }) next.fresh (let a = ok.state in omega arith) (let a = ok.token in omega arith) in
    let less' : unreached c.arrive_at.new.spots.spots < unreached c.turns.second.spots.spots = rw c.in_ok-arrive_at-in-Some.ensures.spots less in
    less'
