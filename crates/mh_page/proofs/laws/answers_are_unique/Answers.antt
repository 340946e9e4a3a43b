use Rattle.mh_page.proofs.IsAnswer.{one_answer}
use Rattle.mh_page.proofs.laws.answers_are_unique.Goals as goal

pub returns : goal.returns
returns c = one_answer
