use Rattle.std.proofs.Common.{refl}
use Rattle.mh_top_drive.proofs.LineCalls.{nothing_ends}
use Rattle.mh_top_plans.specs.Plan.{plan_behavior}
use Rattle.mh_top_modes.proofs.judging.JudgingMode.end.Goals as goal

pub returns-clause-text : goal.returns-clause-text
returns-clause-text g c = λ plan is. nothing_ends plan_behavior _ plan _ refl is
