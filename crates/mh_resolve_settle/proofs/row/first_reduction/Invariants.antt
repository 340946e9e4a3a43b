use Rattle.std.proofs.Common.{ℕ, take}
use Rattle.mh_resolve_cells.specs.code.CellRows.{HasReduction}
use Rattle.mh_resolve_settle.proofs.row.first_reduction.Given as goal

abbrev pub invariant-loop-cell : goal.invariant-loop-cell
invariant-loop-cell l = (p : ℕ) → HasReduction (take l.cell-index l.cells) p → ⊥
