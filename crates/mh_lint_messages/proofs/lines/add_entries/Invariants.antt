use Rattle.std.proofs.Common.{◌≡◌, length, take}
use Rattle.mh_lint_messages.specs.code.Findings.{DecidesEntries}
use Rattle.mh_lint_messages.proofs.lines.add_entries.Given as goal

abbrev pub invariant-loop-entry : goal.invariant-loop-entry
invariant-loop-entry l = record {
  size : length l.found.kept_lines.items ≡ length l.initial.found.kept_lines.items;
  so_far : DecidesEntries l.to.grammar.now l.to.table.now l.to.name.now (take l.entry-index l.entries) l.initial.found l.found;
}
