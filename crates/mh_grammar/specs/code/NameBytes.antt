-- The bytes of a name, in place or on the heap.
use Rattle.std.specs.Prelude.{ℕ, List, take, ◌≤◌}
use Rattle.mh_grammar.specs.declared.name.NameBytes.{NameBytes}
use Rattle.mh_grammar.specs.declared.name.NameBytes.TheVariants as bytes

abbrev pub bytes_of : NameBytes → List ℕ
bytes_of (bytes.Short array count) = take count array
bytes_of (bytes.Long vec) = vec.items

-- The count of the bytes that are in place is within the array.
abbrev pub HasCount : NameBytes → Type 0
HasCount (bytes.Short array count) = count ≤ 16
HasCount (bytes.Long vec) = Unit {0}
