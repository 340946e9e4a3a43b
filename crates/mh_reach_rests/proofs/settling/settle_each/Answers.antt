use Rattle.std.proofs.Common.{◌<◌, ◌≤◌, List, arith, drop, length, length-drop, subst, sym}
use Rattle.std.proofs.Math.ListN.{drop_of_length-le}
use Rattle.std.proofs.lemmas.List.{take_rest}
use Rattle.mh_reach_words.proofs.MergeSort.{rest_after}
use Rattle.mh_reach_rests.specs.declared.settling.RankedWord.{RankedWord}
use Rattle.mh_reach_rests.specs.code.RestLevels.{InRestLevel}
use Rattle.mh_reach_rests.proofs.RestLevels.{level_done}
use Rattle.mh_reach_rests.proofs.settling.settle_each.Goals as goal

pub loop-place-init : goal.loop-place-init
loop-place-init c = c.requires.ready

pub settle_one-requires-clause-some : goal.settle_one-requires-clause-some
settle_one-requires-clause-some c =
    let items = c.args.level.now.items.now in
    let some : 0 < length (drop c.loop-place.place items) = (let a = c.loop-place-test.true in let l = length-drop c.loop-place.place items in omega arith) in
    subst (λ (l : List RankedWord). 0 < length l) (sym (take_rest items c.loop-place.place)) some

pub settle_one-requires-clause-ready : goal.settle_one-requires-clause-ready
settle_one-requires-clause-ready c = subst (λ (l : List RankedWord). InRestLevel c.args.table.now c.args.classes.now c.loop-place.found c.args.level.now.cost l) (sym (take_rest c.args.level.now.items.now c.loop-place.place)) c.loop-place.invariant

pub loop-place-preserved : goal.loop-place-preserved
loop-place-preserved c = subst (λ (l : List RankedWord). InRestLevel c.args.table.now c.args.classes.now c.settle_one.new.found c.args.level.now.cost l) (rest_after c.args.level.now.items.now c.loop-place.place) c.in_ok-settle_one.ensures

pub returns : goal.returns
returns c =
    let items = c.args.level.now.items.now in
    let le : length items ≤ c.loop-place.place = (let a = c.loop-place-test.false in omega arith) in
    level_done c.args.table.now c.facts.ensures c.args.classes.now c.requires.classes c.loop-place.found c.args.level.now.cost (rw (drop_of_length-le items le) at c.loop-place.invariant)
