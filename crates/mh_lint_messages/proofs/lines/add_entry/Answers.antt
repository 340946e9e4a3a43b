use Rattle.std.proofs.Common.{refl}
use Rattle.std.proofs.lemmas.Result.{on_ok_weaker}
use Rattle.mh_lint_messages.proofs.DecidesEntries.{entry_added}
use Rattle.mh_lint_messages.proofs.lines.add_entry.Goals as goal

pub returns-clause-entry : goal.returns-clause-entry
returns-clause-entry c =
    on_ok_weaker c.write_unwritten.result
    (entry_added c.args.to.now.grammar.now c.args.to.now.table.now c.args.to.now.name.now c.args.entry.now c.as_slice.result.now c.as_slice-2.result.now c.as_slice.ensures c.as_slice-2.ensures c.in_ok-last.last c.args.found.now c.add_lines.new.found _
    c.in_ok-last.ensures.lines refl) c.write_unwritten.ensures
