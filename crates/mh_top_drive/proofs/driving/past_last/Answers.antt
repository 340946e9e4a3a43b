use Rattle.std.proofs.Common.{inr, refl}
use Rattle.mh_top_drive.proofs.LineCalls.{past_fault}
use Rattle.mh_top_drive.proofs.driving.past_last.Goals as goal

pub returns-in-Ok-Some-clause-ran : goal.returns-in-Ok-Some-clause-ran
returns-in-Ok-Some-clause-ran g c =
    let line = rw c.in-Ok-Some.field-0-is at c.in-Ok-Some.ensures.bytes in (refl, inr (_, line.0, line.1))

pub returns-clause-ran : goal.returns-clause-ran
returns-clause-ran g c = past_fault _ _ c.in-Err.fault _ c.stop_of.ensures c.in-Err.ensures.bytes
