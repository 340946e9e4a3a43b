use Rattle.std.proofs.Common.{subst}
use Rattle.std.specs.Prelude.{IfOk}
use Rattle.mh_grammar.specs.Text.{Text}
use Rattle.mh_session.specs.code.AnswerTexts.{IsAnswerText}
use Rattle.mh_session.proofs.IsLineAnswered.{meaning_answered}
use Rattle.mh_session.proofs.answering.serve.Goals as goal

pub returns-clause-answered : goal.returns-clause-answered
returns-clause-answered c =
    meaning_answered c.args.grammar.now c.args.session.now c.step-answer.new.self c.args.command.now c.step-answer.result c.answer_text-text.result c.step-answer.ensures.served
    (subst (λ (name : Text). IfOk c.answer_text-text.result (λ v. IsAnswerText c.args.grammar.now name c.step-answer.result v.items)) c.replying.ensures c.answer_text-text.ensures)
