use Rattle.std.proofs.Common.{◌≡◌, ◌++◌, drop}
use Rattle.mh_report.specs.Warnings.{warning_lines}
use Rattle.mh_report.proofs.warnings.warning_text.Given as goal

abbrev pub invariant-loop-conflict : goal.invariant-loop-conflict
invariant-loop-conflict l = record {
  rest : l.text.items ++ warning_lines l.grammar (drop l.conflict-index l.conflicts) ≡ warning_lines l.grammar l.conflicts;
}
