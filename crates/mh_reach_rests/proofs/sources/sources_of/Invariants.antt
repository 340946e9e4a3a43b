use Rattle.mh_reach_rests.specs.code.RestRules.{AreSourcesBelow}
use Rattle.mh_reach_rests.proofs.sources.sources_of.Given as goal

abbrev pub invariant-loop-state : goal.invariant-loop-state
invariant-loop-state l = AreSourcesBelow l.table l.state l.rows.items
