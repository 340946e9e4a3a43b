use Rattle.mh_top_check.proofs.checking.finding_of.Goals as goal
use Rattle.mh_top_check.specs.code.Findings.{other}
use Rattle.mh_top_drive.specs.declared.stop.Cause.TheVariants.{Refused}

pub returns-in-Halted : goal.returns-in-Halted
returns-in-Halted c = rw c.in-Halted.is c.finding_of_cause.ensures

pub returns-in_default : goal.returns-in_default
returns-in_default c = other (λ whole e. c.in_default.not-Halted (Refused whole) e)
