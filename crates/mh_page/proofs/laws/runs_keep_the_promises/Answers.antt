use Rattle.mh_top_claims.proofs.Promises.{keeps_promises}
use Rattle.mh_page.proofs.laws.runs_keep_the_promises.Goals as goal

pub returns : goal.returns
returns c = λ g out err status run. keeps_promises g.words _ _ _ run.ran
