use Rattle.std.proofs.Common.{◌≡◌, length}
use Rattle.std.specs.List.{All}
use Rattle.std.specs.HashMap.{IsEmpty}
use Rattle.mh_join_parts.proofs.numbering.put_maps.Given as goal

abbrev pub invariant-loop-at : goal.invariant-loop-at
invariant-loop-at l = (length l.maps.items ≡ l._at) × All IsEmpty l.maps.items
