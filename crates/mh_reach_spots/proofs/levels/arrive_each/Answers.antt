use Rattle.std.proofs.Common.{◌<◌, ◌≤◌, List, arith, drop, length, length-drop, subst, sym}
use Rattle.std.proofs.Math.ListN.{drop_of_length-le}
use Rattle.std.proofs.lemmas.List.{take_rest}
use Rattle.mh_reach_spots.specs.declared.waiting.RankedSpot.{RankedSpot}
use Rattle.mh_reach_spots.specs.code.SpotLevels.{InLevel}
use Rattle.mh_reach_spots.proofs.SpotLevels.{level_done}
use Rattle.mh_reach_words.proofs.MergeSort.{rest_after}
use Rattle.mh_reach_spots.proofs.levels.arrive_each.Goals as goal

pub loop-place-init : goal.loop-place-init
loop-place-init c = c.requires.ready

pub arrive_one-requires-clause-some : goal.arrive_one-requires-clause-some
arrive_one-requires-clause-some c =
    let items = c.args.level.now.comings.now in
    let some : 0 < length (drop c.loop-place.place items) = (let a = c.loop-place-test.true in let l = length-drop c.loop-place.place items in omega arith) in
    subst (λ (l : List RankedSpot). 0 < length l) (sym (take_rest items c.loop-place.place)) some

pub arrive_one-requires-clause-ready : goal.arrive_one-requires-clause-ready
arrive_one-requires-clause-ready c =
    subst (λ (l : List RankedSpot). InLevel c.args.table.now c.args.classes.now c.args.gotos.now c.loop-place.second.spots.book c.loop-place.second.spots.spots c.loop-place.second.queue.buckets.items c.args.level.now.cost l) (sym (take_rest c.args.level.now.comings.now c.loop-place.place)) c.loop-place.invariant

pub loop-place-preserved : goal.loop-place-preserved
loop-place-preserved c =
    subst (λ (l : List RankedSpot). InLevel c.args.table.now c.args.classes.now c.args.gotos.now c.arrive_one.new.second.spots.book c.arrive_one.new.second.spots.spots c.arrive_one.new.second.queue.buckets.items c.args.level.now.cost l) (rest_after c.args.level.now.comings.now c.loop-place.place) c.in_ok-arrive_one.ensures

pub returns : goal.returns
returns c =
    let items = c.args.level.now.comings.now in
    let le : length items ≤ c.loop-place.place = (let a = c.loop-place-test.false in omega arith) in
    let g = c.loop-place.invariant in
    record {
      found = g.found;
      invariant = level_done c.args.table.now c.facts.ensures c.args.classes.now c.requires.classes g.found.gotos c.loop-place.second.spots.book c.loop-place.second.spots.spots c.loop-place.second.queue.buckets.items c.args.level.now.cost (rw (drop_of_length-le items le) at g.ready);
      below = g.below;
    }
