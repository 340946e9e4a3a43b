use Rattle.std.proofs.Common.{◌≡◌, ℕ, ◌<◌, get_or, w64}
use Rattle.std.specs.Prelude.{bit_and}
use Rattle.std.specs.Int.{bit_not}
use Rattle.mh_sets.proofs.bits.are_within.Given as goal

abbrev pub invariant-words : goal.invariant-words
invariant-words l = (j : ℕ) → j < l.k → bit_and (get_or l.words j 0) (bit_not w64 (get_or l.other j 0)) ≡ 0
