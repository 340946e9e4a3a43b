use Rattle.std.proofs.Common.{sym, subst}
use Rattle.std.specs.List.{Contains}
use Rattle.mh_inline.proofs.uses.put_off_inlined.Goals as goal

pub put_off-requires : goal.put_off-requires
put_off-requires c = rw (c.as_slice.ensures.value, c.requires.last) c.in_ok-numbers.ensures.within

pub returns : goal.returns
returns c = record {
  len = c.put_off.ensures.len;
  later = c.put_off.ensures.later;
  reached = λ m x. c.put_off.ensures.reached m (subst (λ ys. Contains ys m) (sym c.as_slice.ensures.value) ((c.in_ok-numbers.ensures.exact m).1 x));
}
