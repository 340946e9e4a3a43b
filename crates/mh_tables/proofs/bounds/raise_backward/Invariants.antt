use Rattle.std.proofs.Common.{◌≡◌, vec_len}
use Rattle.mh_tables.proofs.bounds.raise_backward.Given as goal

abbrev pub invariant-places : goal.invariant-places
invariant-places l = vec_len l.bounds ≡ vec_len l.fn.bounds
