use Rattle.std.proofs.Common.{[], ap, subst, sym, ◌∙◌}
use Rattle.std.specs.List.{All}
use Rattle.mh_tables_core.specs.Table.{TableData}
use Rattle.mh_session.specs.SessionState.{SessionState}
use Rattle.mh_session_branches.specs.Answers.{IsCommandOf, AreAnswers}
use Rattle.mh_session.proofs.run.answer_all.Goals as goal

pub answer_each-requires-clause-known : goal.answer_each-requires-clause-known
answer_each-requires-clause-known c = subst (λ (t : TableData). All (IsCommandOf t) c.args.commands.now) (sym (ap (λ (m : SessionState). m.table) c.new-session.ensures)) c.requires

pub answer_each-requires-clause-none : goal.answer_each-requires-clause-none
answer_each-requires-clause-none c = ap (λ (m : SessionState). m.held) c.new-session.ensures

pub answer_each-requires-clause-empty : goal.answer_each-requires-clause-empty
answer_each-requires-clause-empty c = c.new-answers.ensures.items

pub returns-in-Ok : goal.returns-in-Ok
returns-in-Ok c = subst (λ (m : SessionState). AreAnswers m.table [] c.args.commands.now c.answer_each.new.so_far.items) c.new-session.ensures c.in-Ok.ensures
