use Rattle.mh_top_claims.proofs.WorkUnique.{outcome_once, work_once}
use Rattle.mh_top_claims.proofs.laws.work_is_unique.Goals as goal

pub returns-clause-work : goal.returns-clause-work
returns-clause-work c = work_once

pub returns-clause-outcome : goal.returns-clause-outcome
returns-clause-outcome c = outcome_once
