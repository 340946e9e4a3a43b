use Rattle.std.proofs.Common.{arith, sym}
use Rattle.std.proofs.lemmas.Option.{slice_get-get_or}
use Rattle.mh_grammar.proofs.Lists.{contains_at}
use Rattle.mh_reach_words.proofs.IsNumberedUpTo.{numbers_begin, number_next, numbers_end}
use Rattle.mh_reach_words.proofs.numbering.numbers_of.Goals as goal

pub loop-one-init : goal.loop-one-init
loop-one-init c = numbers_begin c.args.given.now c.args.made.now c.new-numbers.result.items c.new-numbers.ensures.items

pub number_for-requires : goal.number_for-requires
number_for-requires c = c.requires _ (contains_at c.args.made.now c.loop-one.one-index _ (slice_get-get_or c.args.made.now c.loop-one.one-index _ c.loop-one-test.true))

pub loop-one-preserved : goal.loop-one-preserved
loop-one-preserved c =
    number_next c.args.given.now c.args.made.now c.loop-one.one-index _ c.number_for.result c.loop-one.numbers.items c.push.new.self.items (slice_get-get_or c.args.made.now c.loop-one.one-index _ c.loop-one-test.true) (sym c.number_for.ensures) c.in_ok-push.ensures.items c.loop-one.invariant

pub returns : goal.returns
returns c = numbers_end c.args.given.now c.args.made.now c.loop-one.one-index c.loop-one.numbers.items (let a = c.loop-one-test.false in let b = c.loop-one.auto.one-index-end in omega arith) c.loop-one.invariant
