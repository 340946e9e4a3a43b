use Rattle.std.proofs.Common.{◌≡◌, length, take}
use Rattle.mh_lint_messages.specs.code.Findings.{DecidesLines}
use Rattle.mh_lint_messages.proofs.lines.add_lines.Given as goal

abbrev pub invariant-loop-line : goal.invariant-loop-line
invariant-loop-line l = record {
  size : length l.found.kept_lines.items ≡ length l.initial.found.kept_lines.items;
  so_far : DecidesLines l.to.grammar.now l.to.table.now l.to.name.now (take l.line-index l.lines) l.last l.initial.found l.found;
}
