use Rattle.mh_catalogue.specs.Rows.{rows_of}
use Rattle.mh_catalogue.specs.code.RowsBelow.{RowsBelow}
use Rattle.mh_catalogue.proofs.gathering.all_rows.Given as goal

abbrev pub invariant-loop-state : goal.invariant-loop-state
invariant-loop-state l = RowsBelow l.reach l.state (rows_of l.rows.items)
