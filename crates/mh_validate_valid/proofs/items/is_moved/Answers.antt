use Rattle.std.proofs.Common.{arith}
use Rattle.mh_validate_valid.proofs.items.is_moved.Goals as goal

pub returns-else-item-len : goal.returns-else-item-len
returns-else-item-len g c = (
  λ t. record { at_end = λ _. c.is_end.ensures.0 t; moved = omega (arith, c.if-item-eq0.false) },
  λ moved. c.is_end.ensures.1 (moved.at_end (let n = c.len.ensures in omega (arith, n, c.if-item-len.false))),
)
