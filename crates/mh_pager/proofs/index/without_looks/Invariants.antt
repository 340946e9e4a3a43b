use Rattle.std.proofs.Common.{◌≡◌, map, take}
use Rattle.mh_pager.specs.code.Cores.{core_item}
use Rattle.mh_pager.proofs.index.without_looks.Given as goal

abbrev pub invariant-loop-item : goal.invariant-loop-item
invariant-loop-item g l = l.places.items ≡ map core_item (take l.item-index l.items)
