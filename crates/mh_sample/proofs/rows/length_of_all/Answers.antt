use Rattle.std.proofs.Common.{◌∙◌, ◌+◌, ap, arith}
use Rattle.mh_grammar.proofs.Lists.{get_or_own_default}
use Rattle.mh_sample.proofs.LeastLengths.{sum_bounded, sum_more}
use Rattle.mh_sample.proofs.rows.length_of_all.Goals as goal

pub loop-symbol-preserved : goal.loop-symbol-preserved
loop-symbol-preserved c =
    let lengths = c.args.lengths.now in
    let symbols = c.args.symbols.now in
    let i = c.loop-symbol.symbol-index in
    let at = get_or_own_default symbols i _ c.loop-symbol-test.true in
    let sum = sum_more lengths symbols i _ c.loop-symbol-test.true at c.loop-symbol.sum c.loop-symbol.invariant.sum in
    let few = sum_bounded lengths symbols i _ c.loop-symbol-test.true at c.loop-symbol.sum c.requires.short c.requires.below c.loop-symbol.invariant.few in
    record { sum = ap (λ n. c.loop-symbol.sum + n) c.length_of-sum.ensures ∙ sum; few = omega (arith, c.length_of-sum.ensures, few) }
