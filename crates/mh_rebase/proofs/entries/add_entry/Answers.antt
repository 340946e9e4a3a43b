use Rattle.std.proofs.Common.{refl}
use Rattle.std.proofs.lemmas.Result.{on_ok_weaker}
use Rattle.mh_rebase.proofs.DecidesEntries.{entry_with, entry_without}
use Rattle.mh_rebase.proofs.entries.add_entry.Goals as goal

pub returns-then-kept-clause-entry : goal.returns-then-kept-clause-entry
returns-then-kept-clause-entry g c =
    on_ok_weaker c.write_message.result
    (entry_with c.args.to.now.expected c.args.to.now.grammar.now c.args.to.now.automaton.now c.args.to.now.table.now c.args.entry.now c.as_slice.result.now c.as_slice-then-kept.result.now c.as_slice.ensures c.as_slice-then-kept.ensures c.in_ok-kept.kept c.args.parts.now c.add_lines.new.parts _
    c.in_ok-kept.ensures.lines refl c.if-kept.true refl) c.write_message.ensures

pub returns-else-kept-clause-entry : goal.returns-else-kept-clause-entry
returns-else-kept-clause-entry g c =
    on_ok_weaker c.write_commented.result
    (entry_without c.args.to.now.expected c.args.to.now.grammar.now c.args.to.now.automaton.now c.args.to.now.table.now c.args.entry.now c.as_slice.result.now c.as_slice-else-kept.result.now c.as_slice.ensures c.as_slice-else-kept.ensures c.in_ok-kept.kept c.args.parts.now c.add_lines.new.parts _
    c.in_ok-kept.ensures.lines refl c.if-kept.false refl) c.write_commented.ensures
