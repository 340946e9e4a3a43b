use Rattle.std.proofs.Common.{refl}
use Rattle.mh_top_plans.proofs.at_end.write_at_end.Goals as goal

pub returns-clause-ran : goal.returns-clause-ran
returns-clause-ran g c = c.drive.ensures.ran _ (c.requires.ready, refl)
