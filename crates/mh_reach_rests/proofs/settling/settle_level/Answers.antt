use Rattle.std.proofs.Common.{refl}
use Rattle.mh_reach_rests.specs.declared.waiting.RestData.{RestData}
use Rattle.mh_reach_rests.proofs.RestLevels.{level_numbers, level_ranked}
use Rattle.mh_reach_rests.proofs.settling.settle_level.Goals as goal

pub numbers_of-requires : goal.numbers_of-requires
numbers_of-requires c =
    let work = c.args.found.now.work in
    let mid : RestData = record { queue = c.all_new.new.queue; rests = work.rests; gotos = work.gotos } in
    rw c.as_slice-items.ensures.value (level_numbers c.args.table.now c.facts.ensures c.args.classes.now c.requires.classes c.args.found.now c.args.cost c.requires.cost c.requires.before mid c.in_ok-all.all.items (record { rests = refl; gotos = refl }) c.in_ok-all.ensures)

pub settle_each-requires-clause-ready : goal.settle_each-requires-clause-ready
settle_each-requires-clause-ready c =
    let work = c.args.found.now.work in
    let mid : RestData = record { queue = c.all_new.new.queue; rests = work.rests; gotos = work.gotos } in
    rw c.as_slice-items-2.ensures.value (level_ranked c.args.table.now c.facts.ensures c.args.classes.now c.requires.classes c.args.found.now c.args.cost c.requires.cost c.requires.before mid c.in_ok-all.all.items (record { rests = refl; gotos = refl }) c.in_ok-all.ensures
    c.numbers_of.new.words c.in_ok-numbers.numbers.items c.in_ok-ranked.ranked.items (rw c.as_slice-items.ensures.value at c.in_ok-numbers.ensures) c.rising.ensures (rw (c.as_slice-items.ensures.value, c.as_slice.ensures.value) at c.in_ok-ranked.ensures))
