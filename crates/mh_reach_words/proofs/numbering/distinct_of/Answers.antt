use Rattle.std.proofs.Common.{arith}
use Rattle.std.proofs.lemmas.Option.{slice_get-get_or}
use Rattle.mh_reach_words.proofs.IsNumberedUpTo.{once_next, once_ends}
use Rattle.mh_reach_words.proofs.numbering.distinct_of.Goals as goal

pub loop-one-preserved : goal.loop-one-preserved
loop-one-preserved c =
    once_next c.args.made.now c.loop-one.one-index _ c.loop-one.distinct.keys c.put_once.new.distinct.keys (slice_get-get_or c.args.made.now c.loop-one.one-index _ c.loop-one-test.true) c.loop-one.invariant c.in_ok-put_once.ensures

pub returns : goal.returns
returns c = once_ends c.args.made.now c.loop-one.one-index c.loop-one.distinct.keys (let a = c.loop-one-test.false in let b = c.loop-one.auto.one-index-end in omega arith) c.loop-one.invariant
