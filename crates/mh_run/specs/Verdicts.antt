-- The end of a run, as a verdict of the code gives it.
use Rattle.mh_tables_core.specs.Run.{Ending, Accepted, Overshot, Rejected}
use Rattle.mh_run.specs.declared.outcome.Verdict.{Verdict}
use Rattle.mh_run.specs.declared.outcome.Verdict.TheVariants as verdicts

-- The ending that a verdict means.
abbrev pub ending_for : Verdict → Ending
ending_for (verdicts.Accept read) = Accepted read
ending_for (verdicts.Overshoot state) = Overshot state
ending_for (verdicts.Reject at state) = Rejected at state
