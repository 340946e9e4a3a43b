use Rattle.mh_tables_core.proofs.RunEnds.{has_verdict}
use Rattle.mh_tables_core.proofs.halting.Halting.run_ends.Goals as goal

pub returns : goal.returns
returns c = has_verdict c.args.self.now (rw (← c.self.view_is) c.self.invariant)
