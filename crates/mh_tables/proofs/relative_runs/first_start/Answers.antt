use Rattle.std.proofs.Common.{refl, arith}
use Rattle.mh_tables.proofs.FirstLoop.{first_looping_alone, none_loops_alone_more}
use Rattle.mh_tables.proofs.relative_runs.first_start.Goals as goal

pub returns-in-Some : goal.returns-in-Some
returns-in-Some c = (refl, first_looping_alone c.args.table.now c.states.state c.in-Some.token (omega arith) c.states.invariant (rw c.in-Some.is at c.in_ok-token.ensures))

pub states-preserved : goal.states-preserved
states-preserved c = none_loops_alone_more c.args.table.now c.states.state c.states.invariant (rw c.in_default.is at c.in_ok-token.ensures)

pub returns : goal.returns
returns c = λ s lt. c.states.invariant s (omega arith)
