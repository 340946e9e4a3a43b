use Rattle.mh_top_outcomes.proofs.SomeOutcome.{some_outcome}
use Rattle.mh_top_outcomes.proofs.laws.every_work_has_an_outcome.Goals as goal

pub returns : goal.returns
returns c = some_outcome
