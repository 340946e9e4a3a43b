use Rattle.std.proofs.Common.{◌+◌, ◌++◌, List, take, drop, subst}
use Rattle.mh_msgfile.specs.declared.messages.MsgSentence.{MsgSentence}
use Rattle.mh_check.specs.Compiling.{ReportsCheckFault}
use Rattle.mh_update.specs.Updates.{FirstUnfit}
use Rattle.mh_update.proofs.AreComments.{comments_next, unfit_here, unfit_more, sentences_split}
use Rattle.mh_update.proofs.comments.put_comments.Goals as goal

pub returns-in-Err : goal.returns-in-Err
returns-in-Err g c = λ done are.
    let t = c.args.commenter.now.table.now in
    let xs = c.args.sentences.now in
    let i = c.loop-sentence.sentence-index in
    let x = c.sentence-item.result in
    let here = unfit_here c.args.commenter.now.expected c.args.commenter.now.grammar.now c.args.commenter.now.automaton.now t (done ++ take i xs) c.loop-sentence.comments.items x c.in-Err.fault (c.loop-sentence.invariant done are) c.in-Err.ensures in
    subst (λ (l : List MsgSentence). ReportsCheckFault c.in-Err.fault (FirstUnfit t l)) (sentences_split done xs i x c.loop-sentence-test.true c.sentence-item.is) (unfit_more t _ (drop (i + 1) xs) c.in-Err.fault here)

pub loop-sentence-preserved : goal.loop-sentence-preserved
loop-sentence-preserved g c = λ done are.
    comments_next c.args.commenter.now.expected c.args.commenter.now.grammar.now c.args.commenter.now.automaton.now c.args.commenter.now.table.now done c.args.sentences.now c.loop-sentence.sentence-index c.sentence-item.result c.loop-sentence.comments.items c.push.new.self.items c.in-Ok.comment
    c.loop-sentence-test.true c.sentence-item.is (c.loop-sentence.invariant done are) c.in-Ok.ensures c.in-Ok-push.ensures.items
