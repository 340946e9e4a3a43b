use Rattle.std.proofs.Common.{arith}
use Rattle.mh_items.proofs.gathering.sets_of.Goals as goal

pub returns : goal.returns
returns g c = record {
  nullable_len = rw c.from_vec.ensures (omega (arith, c.in_ok-empty.ensures.len, c.in_ok-empty.empty.ok.0));
  first_len = c.in_ok-first.ensures.len;
  nullable = rw c.from_vec.ensures c.in_ok-empty.ensures.exact;
  first = c.in_ok-first.ensures.exact;
}
