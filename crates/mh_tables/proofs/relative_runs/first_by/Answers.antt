use Rattle.std.proofs.Common.{arith}
use Rattle.mh_tables.proofs.FirstLoop.{loops_alone, loops_above, lower_more, none_loops}
use Rattle.mh_tables.proofs.relative_runs.first_by.Goals as goal

pub returns-in-Some : goal.returns-in-Some
returns-in-Some c =
    let found = rw c.in-Some.is at c.in_ok-found.ensures in
    rw found.0 (loops_alone c.args.table.now c.in-Some.found.state c.in-Some.found.token found.1)

pub returns-in-Some-2 : goal.returns-in-Some-2
returns-in-Some-2 c =
    let found = rw c.in-Some-2.is at c.in_ok-found-2.ensures in
    rw found.0 (loops_above c.args.table.now c.lower.below c.in-Some-2.found.state c.in-Some-2.found.token c.lower.invariant.alone c.lower.invariant.lower found.1)

pub lower-preserved : goal.lower-preserved
lower-preserved c = record {
  alone = c.lower.invariant.alone;
  lower = lower_more c.args.table.now c.lower.below c.lower.invariant.lower (rw c.in_default-2.is at c.in_ok-found-2.ensures);
}

pub returns : goal.returns
returns c = none_loops c.args.table.now c.lower.below (omega arith) c.lower.invariant.alone c.lower.invariant.lower
