use Rattle.std.proofs.Common.{◌≡◌, length, take}
use Rattle.mh_rebase.specs.code.Parts.{DecidesLines}
use Rattle.mh_rebase.proofs.entries.add_lines.Given as goal

abbrev pub invariant-loop-line : goal.invariant-loop-line
invariant-loop-line g l = record {
  size : length l.parts.kept_lines.items ≡ length l.initial.parts.kept_lines.items;
  so_far : DecidesLines l.to.expected l.to.grammar.now l.to.automaton.now l.to.table.now (take l.line-index l.lines) l.kept l.initial.parts l.parts;
}
