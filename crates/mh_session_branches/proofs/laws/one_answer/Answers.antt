use Rattle.mh_session_branches.proofs.OneAnswer.{answer_once}
use Rattle.mh_session_branches.proofs.laws.one_answer.Goals as goal

pub returns : goal.returns
returns c = answer_once
