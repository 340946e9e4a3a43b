use Rattle.std.proofs.Common.{◌≡◌, []}
use Rattle.mh_reach_classes.proofs.IsPartition.{AreRowsBelow}
use Rattle.mh_reach_classes.proofs.token_classes.number.Given as goal

abbrev pub invariant-loop-state : goal.invariant-loop-state
invariant-loop-state l = AreRowsBelow l.table (l.given ≡ []) l.classes.rows.items l.classes.lists.items l.state l.classes.places
