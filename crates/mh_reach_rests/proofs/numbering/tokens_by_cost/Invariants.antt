use Rattle.mh_reach_rests.specs.code.RestNumbers.{AreTokensByCost}
use Rattle.mh_reach_rests.proofs.numbering.tokens_by_cost.Given as goal

abbrev pub invariant-loop-token : goal.invariant-loop-token
invariant-loop-token l = AreTokensByCost l.table l.token l.queue.buckets.items
