use Rattle.std.proofs.Common.{rules}
use Rattle.mh_run.proofs.tracing.SinceShiftRunObserver.shift.Goals as goal

pub returns : goal.returns
returns c = search rules
