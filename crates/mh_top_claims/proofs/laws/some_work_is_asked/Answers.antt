use Rattle.mh_top_claims.proofs.AnswerAtLine.{some_check_work, some_work}
use Rattle.mh_top_claims.proofs.laws.some_work_is_asked.Goals as goal

pub returns-clause-tables : goal.returns-clause-tables
returns-clause-tables c = λ words files before needs is. some_work words files needs before is

pub returns-clause-check : goal.returns-clause-check
returns-clause-check c = λ words files order result on job are. some_check_work words files order result on job are
