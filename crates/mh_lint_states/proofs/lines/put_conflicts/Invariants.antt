use Rattle.std.proofs.Common.{take}
use Rattle.mh_grammar.specs.Plain.{plain_of}
use Rattle.mh_items.specs.code.ClosureBuilder.{IsClosureBuilder}
use Rattle.mh_lint_findings.specs.LinesInOrder.{AreInOrder}
use Rattle.mh_lint_findings.specs.code.AppendedLines.{AppendsLines}
use Rattle.mh_lint_states.specs.AutomatonLines.{AreConflictLines}
use Rattle.mh_lint_states.specs.code.ClosedStates.{IsClosedState}
use Rattle.mh_lint_states.proofs.lines.put_conflicts.Given as goal

abbrev pub invariant-loop-conflict : goal.invariant-loop-conflict
invariant-loop-conflict g l = record {
  lines : AppendsLines (AreInOrder (AreConflictLines l.grammar l.automaton) (take l.conflict-index l.conflicts)) l.fn.findings.items l.findings.items;
  state : IsClosedState l.grammar l.automaton l.state.number l.state.closed;
  closer : IsClosureBuilder (plain_of l.grammar) l.closer;
}
