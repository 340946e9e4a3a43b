use Rattle.std.proofs.Common.{◌≡◌, length, arith}
use Rattle.std.proofs.lemmas.List.Elements.{Contains-get_or}
use Rattle.std.proofs.lemmas.Option.{slice_get-get_or}
use Rattle.mh_reach_rests.proofs.RestNumbers.{none_kept, one_kept}
use Rattle.mh_reach_rests.proofs.numbering.keep_numbers.Goals as goal

pub loop-place-init : goal.loop-place-init
loop-place-init c = none_kept c.args.given.now c.args.numbers.now c.args.tokens.now.items

pub number_at-requires : goal.number_at-requires
number_at-requires c = let a = c.loop-place-test.true in let b = c.requires.numbers in omega arith

pub set_number-requires : goal.set_number-requires
set_number-requires c = rw c.loop-place.invariant.len (c.requires.known _ (Contains-get_or c.args.given.now c.loop-place.place _ c.loop-place-test.true))

pub loop-place-preserved : goal.loop-place-preserved
loop-place-preserved c =
    one_kept c.args.given.now c.args.numbers.now c.loop-place.place _ c.number_at.result c.args.tokens.now.items c.loop-place.tokens.items c.set_number.new.tokens.items c.loop-place.invariant (slice_get-get_or c.args.given.now c.loop-place.place _ c.loop-place-test.true) c.number_at.ensures
    (rw c.loop-place.invariant.len (c.requires.known _ (Contains-get_or c.args.given.now c.loop-place.place _ c.loop-place-test.true))) c.set_number.ensures

pub returns : goal.returns
returns c =
    let e : c.loop-place.place ≡ length c.args.given.now = (let a = c.loop-place-test.false in let b = c.loop-place.auto.place-end in omega arith) in
    rw e at c.loop-place.invariant
