use Rattle.mh_grammar.proofs.Lists.{drop_step}
use Rattle.mh_msgfile.specs.FileTexts.{entry_text}
use Rattle.mh_msgfile.proofs.LoopSteps.{written_next, written_all}
use Rattle.mh_msgfile.proofs.printing.print_messages.Goals as goal

pub loop-entry-preserved : goal.loop-entry-preserved
loop-entry-preserved c =
    let lt = rw c.as_slice-entry-items.ensures at c.loop-entry-test.true in
    let is = rw c.as_slice-entry-items.ensures at c.entry-item.is in
    written_next (entry_text c.args.grammar.now) c.args.file.now.entries c.loop-entry.entry-index _ _ c.loop-entry.invariant c.entry-item.result _ (drop_step _ _ _ lt is) c.in_ok-write_entry.ensures

pub returns : goal.returns
returns c =
    let le = rw c.as_slice-entry-items.ensures at c.loop-entry-test.false in
    written_all (entry_text c.args.grammar.now) c.args.file.now.entries c.loop-entry.entry-index _ _ c.loop-entry.invariant le
