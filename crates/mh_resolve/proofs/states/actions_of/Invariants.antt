use Rattle.std.proofs.Common.{◌≡◌, take}
use Rattle.std.specs.Prelude.{map}
use Rattle.mh_resolve_cells.specs.code.StateResults.{filled_with}
use Rattle.mh_resolve.proofs.states.actions_of.Given as goal

abbrev pub invariant-loop-cell : goal.invariant-loop-cell
invariant-loop-cell l = l.actions.items ≡ map (filled_with l.filler) (take l.cell-index l.cells)
