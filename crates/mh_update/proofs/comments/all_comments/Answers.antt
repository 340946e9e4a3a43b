use Rattle.std.proofs.Common.{◌+◌, ◌++◌, List, take, drop, subst}
use Rattle.mh_msgfile.specs.declared.messages.MsgSentence.{MsgSentence}
use Rattle.mh_check.specs.Compiling.{ReportsCheckFault}
use Rattle.mh_update.specs.Updates.{FirstUnfit}
use Rattle.mh_update.proofs.AreComments.{of_entries, unfit_more, entry_split}
use Rattle.mh_update.proofs.comments.all_comments.Goals as goal

pub returns-in-Err : goal.returns-in-Err
returns-in-Err g c =
    let i = c.loop-entry.entry-index in
    let e = c.entry-item.result in
    let t = c.args.commenter.now.table.now in
    let es = c.args.entries.now in
    let done = of_entries (take i es) in
    let given = c.in-Err.ensures done c.loop-entry.invariant in
    let told = subst (λ (xs : List MsgSentence). ReportsCheckFault c.in-Err.fault (FirstUnfit t (done ++ xs))) c.as_slice-sentences.ensures given in
    subst (λ (l : List MsgSentence). ReportsCheckFault c.in-Err.fault (FirstUnfit t l)) (entry_split es i e c.loop-entry-test.true c.entry-item.is) (unfit_more t (done ++ e.sentences) (of_entries (drop (i + 1) es)) c.in-Err.fault told)
