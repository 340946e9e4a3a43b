use Rattle.std.proofs.Common.{refl}
use Rattle.mh_canon.proofs.limits.number.Goals as goal

pub returns-then-at-ge-MAX_STATES-clause-exceeds : goal.returns-then-at-ge-MAX_STATES-clause-exceeds
returns-then-at-ge-MAX_STATES-clause-exceeds c _ = c.if-at-ge-MAX_STATES.true

pub returns-clause-ok : goal.returns-clause-ok
returns-clause-ok c = (refl, c.if-at-ge-MAX_STATES.false)
