use Rattle.std.proofs.Common.{◌≡◌, ◌++◌, drop}
use Rattle.mh_resolve_cells.specs.code.ConflictList.{token_conflicts}
use Rattle.mh_resolve.proofs.found.add_conflicts.Given as goal

abbrev pub invariant-loop-token : goal.invariant-loop-token
invariant-loop-token l = l.conflicts.items ++ token_conflicts l.state l.token (drop l.token l.row.cells) ≡ l.initial.conflicts.items ++ token_conflicts l.state 0 l.row.cells
