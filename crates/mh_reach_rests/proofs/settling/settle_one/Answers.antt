use Rattle.std.proofs.Common.{◌∷◌, None, Some, drop, inl, refl, sym}
use Rattle.mh_reach_rests.specs.declared.waiting.RestData.{RestData}
use Rattle.mh_reach_rests.specs.code.RestLevels.{InRestLevel, TakesNextWaiting}
use Rattle.mh_reach_rests.proofs.RestSteps.{entry_of}
use Rattle.mh_reach_rests.proofs.RestLevels.{level_drained, level_pushed, level_settles}
use Rattle.mh_reach_rests.proofs.UnsettledWords.{settles_less}
use Rattle.mh_reach_rests.proofs.settling.settle_one.Goals as goal

pub turns-init : goal.turns-init
turns-init c =
    let work = c.args.found.now.work in
    let rest = drop 1 c.args.level.now.items.now in
    let mid : RestData = record { queue = c.push.new.queue; rests = work.rests; gotos = work.gotos } in
    let ready : InRestLevel c.args.table.now c.args.classes.now c.args.found.now c.args.level.now.cost (c.first_of-first.result ∷ rest) = rw (sym c.first_of-first.ensures) c.requires.ready in
    level_pushed c.args.table.now c.facts.ensures c.args.classes.now c.requires.classes c.args.found.now c.args.level.now.cost mid c.first_of-first.result rest ready (record { rests = refl; gotos = refl }) c.in_ok-push.ensures

pub returns-in-None : goal.returns-in-None
returns-in-None c =
    let work = c.turns.found.work in
    let mid : RestData = record { queue = c.next_new.new.queue; rests = work.rests; gotos = work.gotos } in
    let next : TakesNextWaiting c.turns.found.settled work.queue.buckets.items c.next_new.new.queue.buckets.items c.args.level.now.cost None = rw c.in-None.is at c.next_new.ensures in
    level_drained c.args.table.now c.facts.ensures c.args.classes.now c.requires.classes c.turns.found c.args.level.now.cost mid c.first_of-first.result.word (drop 1 c.args.level.now.items.now) c.turns.invariant (record { rests = refl; gotos = refl }) next

pub settle-requires : goal.settle-requires
settle-requires c =
    let next : TakesNextWaiting c.turns.found.settled c.turns.found.work.queue.buckets.items c.next_new.new.queue.buckets.items c.args.level.now.cost (Some c.in-Some.item) = rw c.in-Some.is at c.next_new.ensures in
    next.fresh

pub expand-requires-clause-rows : goal.expand-requires-clause-rows
expand-requires-clause-rows c =
    let rows = c.turns.invariant.invariant.rows in
    record { rests = rows.rests; gotos = rows.gotos; each_rest = rows.each_rest; each_goto = rows.each_goto }

pub expand-requires-clause-item : goal.expand-requires-clause-item
expand-requires-clause-item c =
    let next : TakesNextWaiting c.turns.found.settled c.turns.found.work.queue.buckets.items c.next_new.new.queue.buckets.items c.args.level.now.cost (Some c.in-Some.item) = rw c.in-Some.is at c.next_new.ensures in
    (c.turns.invariant.invariant.items c.args.level.now.cost c.in-Some.item (inl next.waited)).range

pub turns-preserved : goal.turns-preserved
turns-preserved c =
    let work = c.turns.found.work in
    let mid : RestData = record { queue = c.next_new.new.queue; rests = work.rests; gotos = work.gotos } in
    let next : TakesNextWaiting c.turns.found.settled work.queue.buckets.items c.next_new.new.queue.buckets.items c.args.level.now.cost (Some c.in-Some.item) = rw c.in-Some.is at c.next_new.ensures in
    level_settles c.args.table.now c.facts.ensures c.args.classes.now c.requires.classes c.turns.found c.args.level.now.cost c.requires.cost c.args.sources.now c.requires.sources c.first_of-first.result.word (drop 1 c.args.level.now.items.now) c.turns.invariant mid c.expand.new.work c.settle.new.settled c.in-Some.item (record { rests = refl; gotos = refl }) next
    c.in_ok-settle-in-Some.ensures c.in_ok-expand-in-Some.ensures

pub turns-smaller : goal.turns-smaller
turns-smaller c =
    let next : TakesNextWaiting c.turns.found.settled c.turns.found.work.queue.buckets.items c.next_new.new.queue.buckets.items c.args.level.now.cost (Some c.in-Some.item) = rw c.in-Some.is at c.next_new.ensures in
    let ok = c.turns.invariant.invariant.items c.args.level.now.cost c.in-Some.item (inl next.waited) in
    settles_less c.args.table.now c.facts.ensures c.turns.found.settled c.settle.new.settled c.in-Some.item.sought (entry_of c.args.level.now.cost c.first_of-first.result.word) c.in-Some.item.end c.args.level.now.cost ok.range next.fresh c.in_ok-settle-in-Some.ensures
