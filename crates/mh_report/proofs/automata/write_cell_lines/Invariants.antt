use Rattle.std.proofs.Common.{◌≡◌, ◌++◌}
use Rattle.mh_report.specs.Automata.{cell_lines}
use Rattle.mh_report.proofs.automata.write_cell_lines.Given as goal

abbrev pub invariant-loop-token : goal.invariant-loop-token
invariant-loop-token l = l.text.items ≡ l.initial.text.items ++ cell_lines l.grammar l.table l.state l.holes l.token
