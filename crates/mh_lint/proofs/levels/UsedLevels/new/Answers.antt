use Rattle.std.proofs.Common.{refl}
use Rattle.mh_lint.proofs.levels.UsedLevels.new.Goals as goal

pub returns : goal.returns
returns c = record { names = λ x. rw c.new.ensures.empty refl; alternatives = c.new-2.ensures.empty }
