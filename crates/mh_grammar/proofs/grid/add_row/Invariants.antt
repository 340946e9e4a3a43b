use Rattle.mh_grammar.proofs.FlagTable.{RowAdded}
use Rattle.mh_grammar.proofs.grid.add_row.Given as goal

abbrev pub invariant-loop-column : goal.invariant-loop-column
invariant-loop-column l = RowAdded l.width l.initial.flags l.flags l.to l.from l.grown l.column
