use Rattle.std.proofs.Common.{◌≡◌, ℕ, ◌<◌, get_or}
use Rattle.std.specs.Prelude.{bit_and}
use Rattle.mh_sets.proofs.bits.share.Given as goal

abbrev pub invariant-words : goal.invariant-words
invariant-words l = (j : ℕ) → j < l.k → bit_and (get_or l.words j 0) (get_or l.other j 0) ≡ 0
