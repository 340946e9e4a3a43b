use Rattle.std.proofs.Common.{sym}
use Rattle.mh_reach_spots.proofs.SpotInvariant.{rows_on}
use Rattle.mh_reach_spots.proofs.SpotLevels.{level_ready, taken_sentences}
use Rattle.mh_reach_spots.proofs.levels.arrive_level.Goals as goal

pub numbers_of-requires-clause-sentences : goal.numbers_of-requires-clause-sentences
numbers_of-requires-clause-sentences c lt =
    let g = c.requires.before in
    rw c.as_slice.ensures.value (taken_sentences c.args.table.now c.facts.ensures c.args.classes.now c.requires.classes g.found.gotos c.args.second.now.spots.book c.args.second.now.spots.spots c.args.second.now.queue.buckets.items c.args.cost c.take_all.new.queue.buckets.items c.in_ok-all.all.items g.invariant c.in_ok-all.ensures g.below lt)

pub in_order-requires : goal.in_order-requires
in_order-requires c = rw (c.as_slice-2.ensures.value, c.as_slice-3.ensures.value, sym c.as_slice.ensures.value) c.in_ok-numbers.ensures.len

pub arrive_each-requires-clause-ready : goal.arrive_each-requires-clause-ready
arrive_each-requires-clause-ready c =
    let g = c.requires.before in
    let numbered = rw c.as_slice.ensures.value at c.in_ok-numbers.ensures in
    let ranked = rw (c.as_slice-2.ensures.value, c.as_slice-3.ensures.value) at c.in_ok-ranked.ensures in
    rw c.as_slice-4.ensures.value (record {
      found = rows_on c.args.table.now c.args.classes.now c.args.second.now.spots.book numbered.added c.numbers_of.new.book c.args.gotos.now numbered.grown g.found;
      ready = level_ready c.args.table.now c.facts.ensures c.args.classes.now c.requires.classes g.found.gotos c.args.second.now.spots.book c.args.second.now.spots.spots c.args.second.now.queue.buckets.items c.args.cost c.take_all.new.queue.buckets.items c.in_ok-all.all.items g.invariant c.in_ok-all.ensures c.numbers_of.new.book c.in_ok-numbers.numbers.items c.in_ok-ranked.ranked.items numbered ranked;
      below = numbered.below g.below;
    })
