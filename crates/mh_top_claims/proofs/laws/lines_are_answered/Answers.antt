use Rattle.mh_top_claims.proofs.AnswerAtLine.{answered_at, verdict_at}
use Rattle.mh_top_claims.proofs.laws.lines_are_answered.Goals as goal

pub returns-clause-each : goal.returns-clause-each
returns-clause-each c = λ plan last before after line text all. answered_at plan last before line after text all

pub returns-clause-verdict : goal.returns-clause-verdict
returns-clause-verdict c = λ by last before after line text all. verdict_at by last before line after text all
