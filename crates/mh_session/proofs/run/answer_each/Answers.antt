use Rattle.std.proofs.Common.{get_or, subst, sym}
use Rattle.std.proofs.lemmas.List.Elements.{All-get_or}
use Rattle.mh_tables_core.specs.Table.{TableData}
use Rattle.mh_session_branches.specs.Answers.{IsCommandOf}
use Rattle.mh_session.proofs.AnswerAll.{answers_begin, answers_more, answers_whole}
use Rattle.mh_session.proofs.run.answer_each.Goals as goal

pub loop-command-init : goal.loop-command-init
loop-command-init c = answers_begin c.args.commands.now c.args.session.now c.args.so_far.now.items c.requires.none c.requires.empty

pub step-answer-requires : goal.step-answer-requires
step-answer-requires c =
    let known : IsCommandOf c.args.session.now.table (get_or c.args.commands.now c.loop-command.command-index c.command-item.result) = All-get_or (IsCommandOf c.args.session.now.table) c.args.commands.now c.loop-command.command-index c.command-item.result c.loop-command-test.true c.requires.known in
    let here : IsCommandOf c.args.session.now.table c.command-item.result = subst (IsCommandOf c.args.session.now.table) (sym c.command-item.is) known in
    subst (λ (t : TableData). IsCommandOf t c.command-item.result) (sym c.loop-command.invariant.table) here

pub loop-command-preserved : goal.loop-command-preserved
loop-command-preserved c =
    answers_more c.args.session.now.table c.args.commands.now c.loop-command.command-index c.loop-command.session c.step-answer.new.self c.loop-command.so_far.items c.push.new.self.items c.command-item.result c.step-answer.result c.loop-command.invariant
    c.loop-command-test.true c.command-item.is c.step-answer.ensures.served (λ e. let lacked = c.lacked_memory.ensures.1 e in let free = c.if-lacked_memory.false in cc) c.in_ok-push.ensures.items

pub returns : goal.returns
returns c = answers_whole c.args.session.now.table c.args.commands.now c.loop-command.command-index c.loop-command.session c.loop-command.so_far.items c.loop-command.invariant c.loop-command-test.false
