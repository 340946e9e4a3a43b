use Rattle.std.proofs.Common.{refl}
use Rattle.mh_top_drive.proofs.driving.stop_of.Goals as goal

pub returns-in-Failed : goal.returns-in-Failed
returns-in-Failed c = rw c.in-Failed.is refl

pub returns-in-TooBig : goal.returns-in-TooBig
returns-in-TooBig c = rw c.in-TooBig.is refl

pub returns-in-Memory : goal.returns-in-Memory
returns-in-Memory c = rw c.in-Memory.is refl
