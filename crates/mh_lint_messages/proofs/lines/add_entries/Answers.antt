use Rattle.std.proofs.Common.{refl, ◌∙◌}
use Rattle.mh_lint_messages.proofs.DecidesEntries.{entries_none, entries_more}
use Rattle.mh_lint_messages.proofs.lines.add_entries.Goals as goal

pub loop-entry-init : goal.loop-entry-init
loop-entry-init c = record { size = refl; so_far = entries_none c.args.to.now.grammar.now c.args.to.now.table.now c.args.to.now.name.now c.args.found.now }

pub loop-entry-preserved : goal.loop-entry-preserved
loop-entry-preserved c = record {
  size = c.add_entry.ensures.size ∙ c.loop-entry.invariant.size;
  so_far = entries_more c.args.to.now.grammar.now c.args.to.now.table.now c.args.to.now.name.now c.args.entries.now c.loop-entry.entry-index c.entry-item.result c.args.found.now c.loop-entry.found c.add_entry.new.found c.loop-entry-test.true c.entry-item.is
      c.loop-entry.invariant.so_far c.in_ok-add_entry.ensures.entry;
}
