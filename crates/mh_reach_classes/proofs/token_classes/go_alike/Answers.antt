use Rattle.std.proofs.Common.{◌≡◌, arith, refl, length, sym, Some}
use Rattle.std.specs.Prelude.{slice_get}
use Rattle.mh_grammar.proofs.Lists.{contains_at}
use Rattle.mh_reach_classes.proofs.TreatsAlike.{alike_next, alike_all}
use Rattle.mh_reach_classes.proofs.token_classes.go_alike.Goals as goal

pub goes_alike-requires-clause-end : goal.goes_alike-requires-clause-end
goes_alike-requires-clause-end c =
    let there : slice_get c.args.past.now.keys c.loop-place.place ≡ Some c.in-Some.reduction.now = sym c.in-Some.ensures.key in
    (c.requires.past.known c.in-Some.reduction.now (contains_at c.args.past.now.keys c.loop-place.place c.in-Some.reduction.now there)).0

pub goes_alike-requires-clause-target : goal.goes_alike-requires-clause-target
goes_alike-requires-clause-target c =
    let there : slice_get c.args.past.now.keys c.loop-place.place ≡ Some c.in-Some.reduction.now = sym c.in-Some.ensures.key in
    (c.requires.past.known c.in-Some.reduction.now (contains_at c.args.past.now.keys c.loop-place.place c.in-Some.reduction.now there)).1

pub loop-place-preserved : goal.loop-place-preserved
loop-place-preserved c =
    let there : slice_get c.args.past.now.keys c.loop-place.place ≡ Some c.in-Some.reduction.now = sym c.in-Some.ensures.key in
    alike_next c.args.table.now c.args.classes.now c.args.past.now.keys c.loop-place.place c.in-Some.reduction.now there (c.if-not-goes_alike.ensures refl) c.loop-place.invariant

pub returns : goal.returns
returns c e =
    let l : c.len-place-end.result ≡ length c.args.past.now.keys = c.len-place-end.ensures.len in
    alike_all c.args.table.now c.facts.ensures c.args.classes.now c.args.past.now.keys c.requires.classes c.requires.past (λ i r lt is. c.loop-place.invariant i r (let a = c.loop-place-test.false in omega (arith, a, l, lt)) is)
