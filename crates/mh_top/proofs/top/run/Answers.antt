use Rattle.std.proofs.Common.{refl}
use Rattle.mh_top_claims.proofs.Ran.{ran, done}
use Rattle.mh_top.proofs.top.run.Goals as goal

pub returns-in-Err-clause-ran : goal.returns-in-Err-clause-ran
returns-in-Err-clause-ran g c = ran _ _ _ _ _ _ c.in-Err.stop c.in-Err.ensures.ran c.report.ensures

pub returns-in-Ok-clause-ran : goal.returns-in-Ok-clause-ran
returns-in-Ok-clause-ran g c = done _ _ _ _ _ _ c.in-Ok.ensures.ran refl refl refl
