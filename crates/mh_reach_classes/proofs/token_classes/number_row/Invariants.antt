use Rattle.std.proofs.Common.{◌≤◌}
use Rattle.mh_reach_classes.specs.code.ClassRows.{IsClassRow}
use Rattle.mh_reach_classes.proofs.token_classes.number_row.Given as goal

abbrev pub invariant-loop-token : goal.invariant-loop-token
invariant-loop-token l = IsClassRow l.token l.given l.row.classes.items l.row.list.items l.count × (l.fn.count ≤ l.count)
