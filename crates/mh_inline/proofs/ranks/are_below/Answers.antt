use Rattle.std.proofs.Common.{◌<◌, take, get_or, slice_index_or, arith, subst}
use Rattle.std.specs.List.{All}
use Rattle.std.proofs.lemmas.List.{take_all, take_more}
use Rattle.std.proofs.lemmas.List.Elements.{All-push}
use Rattle.mh_inline.proofs.ranks.are_below.Goals as goal

pub loop-number-preserved : goal.loop-number-preserved
loop-number-preserved c =
    let ns = c.args.numbers.now in
    let i = c.loop-number.number-index in
    rw (take_more ns i 0 c.loop-number-test.true) (All-push (λ m. slice_index_or c.args.ranks.now m 0 < c.args.bound) (take i ns) (get_or ns i 0) c.loop-number.invariant (omega (arith, c.rank_of.ensures, c.if-rank_of-bound.false)))

pub returns : goal.returns
returns c = λ _. subst (All (λ m. slice_index_or c.args.ranks.now m 0 < c.args.bound)) (take_all c.loop-number.number-index c.args.numbers.now (omega (arith, c.loop-number-test.false))) c.loop-number.invariant
