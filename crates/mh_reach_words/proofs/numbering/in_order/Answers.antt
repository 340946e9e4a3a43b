use Rattle.std.proofs.lemmas.Result.{IfOk-weaker}
use Rattle.mh_reach_words.specs.code.Words.{words_of}
use Rattle.mh_reach_words.proofs.ComparisonOrder.{no_later_trans}
use Rattle.mh_reach_words.proofs.numbering.in_order.Goals as goal

pub sorted-requires-clause-transitive : goal.sorted-requires-clause-transitive
sorted-requires-clause-transitive c x y z known = no_later_trans (words_of c.args.entries.now) x y z

pub sorted-requires-clause-known : goal.sorted-requires-clause-known
sorted-requires-clause-known c m there = c.requires.known m (c.in_ok-distinct.ensures.only m (rw c.as_slice.ensures.keys at there))

pub returns : goal.returns
returns c = IfOk-weaker c.sorted.result _ _ (λ words sorts. record { distinct = c.in_ok-distinct.distinct.keys; same = c.in_ok-distinct.ensures; sorts = rw c.as_slice.ensures.keys at sorts }) c.sorted.ensures
