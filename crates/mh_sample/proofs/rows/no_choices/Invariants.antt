use Rattle.std.proofs.Common.{◌≡◌, ℕ, [], get_or, vec_len}
use Rattle.mh_sample.proofs.rows.no_choices.Given as goal

abbrev pub invariant-loop : goal.invariant-loop
invariant-loop l = record {
  len : vec_len l.rows ≡ l.counter;
  none : (n : ℕ) → get_or l.rows.items n [] ≡ [];
}
