use Rattle.std.proofs.Common.{refl, ◌∙◌}
use Rattle.mh_rebase.proofs.DecidesEntries.{entries_none, entries_more}
use Rattle.mh_rebase.proofs.entries.add_entries.Goals as goal

pub loop-entry-init : goal.loop-entry-init
loop-entry-init g c = record { size = refl; so_far = entries_none c.args.to.now.expected c.args.to.now.grammar.now c.args.to.now.automaton.now c.args.to.now.table.now c.args.parts.now }

pub loop-entry-preserved : goal.loop-entry-preserved
loop-entry-preserved g c = record {
  size = c.add_entry.ensures.size ∙ c.loop-entry.invariant.size;
  so_far = entries_more c.args.to.now.expected c.args.to.now.grammar.now c.args.to.now.automaton.now c.args.to.now.table.now c.args.entries.now c.loop-entry.entry-index c.entry-item.result c.args.parts.now c.loop-entry.parts c.add_entry.new.parts c.loop-entry-test.true c.entry-item.is
      c.loop-entry.invariant.so_far c.in_ok-add_entry.ensures.entry;
}
