use Rattle.mh_top_claims.proofs.PreparedWork.{needs_table}
use Rattle.mh_top_claims.proofs.WorkBeforeLastLine.{followed, warning_stops}
use Rattle.mh_top_drive.proofs.MayWriteAfter.{after_result}
use Rattle.mh_top.proofs.top.work_with.Goals as goal

pub returns-in-Ok-clause-ran : goal.returns-in-Ok-clause-ran
returns-in-Ok-clause-ran g c = λ words is.
    followed words (needs_table words _ _ is c.requires.mode.job) _ _ _ is c.in-Ok.ensures.text c.in-Ok.ensures.counts c.run_unless_refused.result c.run_unless_refused.ensures.ran c.run_unless_refused.ensures.counts c.run_unless_refused.ensures.read

pub returns-in-Ok-clause-may_warn_on : goal.returns-in-Ok-clause-may_warn_on
returns-in-Ok-clause-may_warn_on g c = after_result _ c.run_unless_refused.result c.in-Ok.ensures.may_write_on

pub returns-in-Err-clause-ran : goal.returns-in-Err-clause-ran
returns-in-Err-clause-ran g c = λ words is.
    warning_stops words (needs_table words _ _ is c.requires.mode.job) _ _ is _ _ c.in-Err.stop c.in-Err.ensures.text c.in-Err.ensures.counts
