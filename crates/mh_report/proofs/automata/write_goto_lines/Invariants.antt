use Rattle.std.proofs.Common.{◌≡◌, ◌++◌, drop}
use Rattle.mh_report.specs.Automata.{goto_lines}
use Rattle.mh_report.proofs.automata.write_goto_lines.Given as goal

abbrev pub invariant-loop-edge : goal.invariant-loop-edge
invariant-loop-edge l = record {
  rest : l.text.items ++ goto_lines l.grammar (drop l.edge-index l.edges) ≡ l.initial.text.items ++ goto_lines l.grammar l.edges;
}
