use Rattle.std.proofs.lemmas.Result.{IfOk-weaker}
use Rattle.mh_canon.proofs.kernel_set.KernelIndex.place.Goals as goal

pub returns-clause-ok : goal.returns-clause-ok
returns-clause-ok _ c = IfOk-weaker c.number.result _ _ (λ n h. (rw h.0 c.in_ok-at.ensures, h.1)) c.number.ensures.ok

pub returns-clause-exceeds : goal.returns-clause-exceeds
returns-clause-exceeds _ c full = (c.in_ok-at.at, c.in_ok-at.ensures, c.number.ensures.exceeds full)
