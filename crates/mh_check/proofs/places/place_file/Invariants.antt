use Rattle.std.proofs.Common.{◌≡◌, length, take}
use Rattle.mh_check.specs.code.Places.{sentences_of_entries, ArePlaces}
use Rattle.mh_check.proofs.places.place_file.Given as goal

abbrev pub invariant-loop-number : goal.invariant-loop-number
invariant-loop-number l = record {
  size : length l.places.items ≡ length l.table.states;
  so_far : ArePlaces l.table (sentences_of_entries 0 (take l.number l.entries)) l.places.items;
}
