use Rattle.mh_engine.specs.code.FedTokens.{FeedsSoFar}
use Rattle.mh_engine.proofs.feeding.feed_each.Given as goal

abbrev pub invariant-loop-place : goal.invariant-loop-place
invariant-loop-place l = FeedsSoFar l.fn.from l.tokens l.place l.at
