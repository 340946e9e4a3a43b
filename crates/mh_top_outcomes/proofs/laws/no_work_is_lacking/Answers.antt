use Rattle.mh_top_outcomes.proofs.SomeExamination.{some_asked_work}
use Rattle.mh_top_outcomes.proofs.laws.no_work_is_lacking.Goals as goal

pub returns : goal.returns
returns c = some_asked_work
