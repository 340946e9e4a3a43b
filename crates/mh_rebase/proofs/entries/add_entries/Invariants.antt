use Rattle.std.proofs.Common.{◌≡◌, length, take}
use Rattle.mh_rebase.specs.code.Parts.{DecidesEntries}
use Rattle.mh_rebase.proofs.entries.add_entries.Given as goal

abbrev pub invariant-loop-entry : goal.invariant-loop-entry
invariant-loop-entry g l = record {
  size : length l.parts.kept_lines.items ≡ length l.initial.parts.kept_lines.items;
  so_far : DecidesEntries l.to.expected l.to.grammar.now l.to.automaton.now l.to.table.now (take l.entry-index l.entries) l.initial.parts l.parts;
}
