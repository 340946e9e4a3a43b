use Rattle.std.proofs.Common.{sym, ◌∙◌}
use Rattle.mh_inline.proofs.uses.forget_inlined.Goals as goal

pub forget-requires-clause-known : goal.forget-requires-clause-known
forget-requires-clause-known c = rw (c.as_slice.ensures.value, c.requires.known) c.in_ok-numbers.ensures.within

pub forget-requires-clause-last : goal.forget-requires-clause-last
forget-requires-clause-last c = c.requires.last ∙ sym c.requires.known

pub returns : goal.returns
returns c = c.forget.ensures
