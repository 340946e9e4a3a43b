use Rattle.std.proofs.Common.{◌≡◌, ℕ, ◌<◌, ◌≤◌, true, false, get_or}
use Rattle.std.specs.Prelude.{bit_or}
use Rattle.mh_sets.proofs.bits.join.Given as goal

-- The first words are joined, and the others have not changed.
abbrev pub invariant-words : goal.invariant-words
invariant-words l = record {
  joined : (j : ℕ) → j < l.k → get_or l.words j 0 ≡ bit_or (get_or l.fn.words j 0) (get_or l.other j 0);
  rest : (j : ℕ) → l.k ≤ j → get_or l.words j 0 ≡ get_or l.fn.words j 0;
  same : l.fresh ≡ false → (j : ℕ) → j < l.k → get_or l.words j 0 ≡ get_or l.fn.words j 0;
  differs : l.fresh ≡ true → ((j : ℕ) → j < l.k → get_or l.words j 0 ≡ get_or l.fn.words j 0) → ⊥;
}
