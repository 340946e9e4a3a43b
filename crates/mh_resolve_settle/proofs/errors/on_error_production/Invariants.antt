use Rattle.std.proofs.Common.{take}
use Rattle.mh_resolve_cells.specs.code.CellRows.{IsBest, IsRanked}
use Rattle.mh_resolve_settle.proofs.errors.on_error_production.Given as goal

abbrev pub invariant-loop-item : goal.invariant-loop-item
invariant-loop-item g l = IsBest (IsRanked l.grammar (take l.item-index l.items)) l.best
