use Rattle.std.proofs.Common.{◌≡◌, ◌++◌, flat_map, take}
use Rattle.mh_lint_findings.specs.Lines.{lines_of}
use Rattle.mh_lint_states.specs.AutomatonLines.{ordinary}
use Rattle.mh_lint_states.specs.code.UnreducedLines.{unreduced_line}
use Rattle.mh_lint_states.proofs.lines.put_productions.Given as goal

abbrev pub invariant-loop-place : goal.invariant-loop-place
invariant-loop-place l = record { lines : lines_of l.findings.items ≡ lines_of l.fn.findings.items ++ flat_map (unreduced_line l.grammar l.reduced) (take l.place (ordinary l.grammar)) }
