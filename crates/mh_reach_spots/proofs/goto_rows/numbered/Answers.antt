use Rattle.std.proofs.Common.{refl}
use Rattle.mh_reach_spots.proofs.goto_rows.numbered.Goals as goal

pub returns : goal.returns
returns c = rw c.number_of.ensures refl
