use Rattle.mh_tables.proofs.FirstLoop.{halts_if_none_loops, not_halting_if_loops}
use Rattle.mh_tables.proofs.checking.check_halts.Goals as goal

pub halting_of-requires : goal.halting_of-requires
halting_of-requires c = halts_if_none_loops c.args.table (rw c.in-Ok-None.field-0-is at c.in-Ok-None.ensures)

pub returns-in-Ok-None-clause-halts : goal.returns-in-Ok-None-clause-halts
returns-in-Ok-None-clause-halts c = halts_if_none_loops c.args.table (rw c.in-Ok-None.field-0-is at c.in-Ok-None.ensures)

pub returns-in-Ok-Some-clause-refused : goal.returns-in-Ok-Some-clause-refused
returns-in-Ok-Some-clause-refused c = not_halting_if_loops c.args.table c.in-Ok-Some.found.below c.in-Ok-Some.found.state c.in-Ok-Some.found.token (rw c.in-Ok-Some.field-0-is at c.in-Ok-Some.ensures)
