use Rattle.std.proofs.Common.{◌≡◌, ◌+◌, drop}
use Rattle.mh_msgfile.specs.Sentences.{colon_place}
use Rattle.mh_msgfile.proofs.sentence.place_of_colon.Given as goal

abbrev pub invariant-loop-byte : goal.invariant-loop-byte
invariant-loop-byte l = (l.count ≡ l.byte-index) × (colon_place l.bytes ≡ colon_place (drop l.byte-index l.bytes) + l.byte-index)
