use Rattle.std.proofs.Common.{◌≡◌, vec_len}
use Rattle.mh_tables.proofs.bounds.raise_until_stable.Given as goal

abbrev pub invariant-rounds : goal.invariant-rounds
invariant-rounds l = vec_len l.bounds ≡ vec_len l.fn.bounds
