use Rattle.std.proofs.Common.{refl}
use Rattle.mh_top_drive.proofs.stop.refusal.Goals as goal

pub returns : goal.returns
returns c = refl
