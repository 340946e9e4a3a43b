use Rattle.mh_session.proofs.AnswerAll.{AnswersSoFar}
use Rattle.mh_session.proofs.run.answer_each.Given as goal

abbrev pub invariant-loop-command : goal.invariant-loop-command
invariant-loop-command l = AnswersSoFar l.fn.session.table l.commands l.command-index l.session l.so_far.items
