use Rattle.std.proofs.Common.{◌≡◌, take}
use Rattle.std.specs.Prelude.{map}
use Rattle.mh_resolve_cells.specs.States.{core_item_of}
use Rattle.mh_resolve.proofs.states.core_of.Given as goal

abbrev pub invariant-loop-item : goal.invariant-loop-item
invariant-loop-item g l = l.core.items ≡ map core_item_of (take l.item-index l.items)
