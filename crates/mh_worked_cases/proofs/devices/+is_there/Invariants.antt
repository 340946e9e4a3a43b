use Rattle.std.proofs.Common.{length}
use Rattle.mh_worked_cases.proofs.devices.+is_there.Given as goal

abbrev pub decreases-is_there : goal.decreases-is_there
decreases-is_there l = length l.files.now
