use Rattle.std.proofs.Common.{inl, refl}
use Rattle.mh_tabfile_read.proofs.reading.read_parts.Goals as goal

pub returns-then-other-clause-reading : goal.returns-then-other-clause-reading
returns-then-other-clause-reading c = c.in-Ok.ensures.0 c.if-other.true

pub returns-then-other-clause-other : goal.returns-then-other-clause-other
returns-then-other-clause-other c = λ h. inl refl

pub returns-clause-other : goal.returns-clause-other
returns-clause-other c = λ h. absurd (c.in-Ok.ensures.1 c.if-other.false h)
