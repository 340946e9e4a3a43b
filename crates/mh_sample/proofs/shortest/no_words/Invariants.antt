use Rattle.std.proofs.Common.{◌≡◌, ℕ, None, get_or, vec_len}
use Rattle.mh_sample.proofs.shortest.no_words.Given as goal

abbrev pub invariant-loop : goal.invariant-loop
invariant-loop l = record {
  len : vec_len l.words ≡ l.counter;
  none : (n : ℕ) → get_or l.words.items n None ≡ None;
}
