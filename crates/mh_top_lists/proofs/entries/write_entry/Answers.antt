use Rattle.std.proofs.Common.{ℕ, List, subst}
use Rattle.mh_report.specs.Comments.{IsEntryText}
use Rattle.mh_catalogue.specs.Rows.{row_of}
use Rattle.mh_top_lists.specs.code.Entries.{IsEntryOf}
use Rattle.mh_top_lists.proofs.WriteEntriesLoop.{entry_ran}
use Rattle.mh_top_lists.proofs.entries.write_entry.Goals as goal

pub returns-clause-text : goal.returns-clause-text
returns-clause-text g c =
    let p = c.args.prepared.now in
    let row = c.args.row.now in
    entry_ran (IsEntryOf p (row_of row)) c.in_ok-text.text.items _ _ _ c.write_text.result
    (subst (λ (w : List ℕ). IsEntryText p.order.comment_expected p.grammar p.tabled.automaton p.tabled.halting row.start w c.in_ok-text.text.items) c.as_slice.ensures c.in_ok-text.ensures)
    c.deref.ensures.value c.write_text.ensures.text
