use Rattle.std.proofs.Common.{drop}
use Rattle.mh_reach_rests.proofs.RestLevels.{SettlesOneWord}
use Rattle.mh_reach_rests.proofs.UnsettledWords.{unsettled_words}
use Rattle.mh_reach_rests.proofs.settling.settle_one.Given as goal

abbrev pub invariant-turns : goal.invariant-turns
invariant-turns l = SettlesOneWord l.table l.classes l.found l.level.cost l.word.word (drop 1 l.level.items.now)

abbrev pub decreases-turns : goal.decreases-turns
decreases-turns l = unsettled_words l.found.settled
