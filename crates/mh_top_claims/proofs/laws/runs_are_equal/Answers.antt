use Rattle.mh_top_claims.proofs.WorkUnique.{run_once}
use Rattle.mh_top_claims.proofs.laws.runs_are_equal.Goals as goal

pub returns : goal.returns
returns c = run_once
