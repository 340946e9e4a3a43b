use Rattle.std.proofs.Common.{◌≡◌, ◌++◌, map, take}
use Rattle.mh_lint_findings.specs.Lines.{lines_of}
use Rattle.mh_lint.specs.Warnings.{cost_line}
use Rattle.mh_lint.proofs.warning_walk.put_costs.Given as goal

abbrev pub invariant-loop-start : goal.invariant-loop-start
invariant-loop-start l = lines_of l.findings.items ≡ lines_of l.fn.findings.items ++ map (cost_line l.file) (take l.start-index l.costs)
