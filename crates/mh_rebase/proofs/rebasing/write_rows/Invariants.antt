use Rattle.std.proofs.Common.{take}
use Rattle.mh_rebase.specs.code.Rows.{WritesRows}
use Rattle.mh_rebase.proofs.rebasing.write_rows.Given as goal

abbrev pub invariant-loop-row : goal.invariant-loop-row
invariant-loop-row g l = WritesRows l.to.expected l.to.grammar.now l.to.automaton.now l.to.table.now l.kept (take l.row-index l.rows) l.initial.text.items l.text.items
