use Rattle.std.proofs.Common.{refl}
use Rattle.mh_tables.proofs.FirstLoop.{first_looping_above, none_loops_above_more, none_loops_above_all}
use Rattle.mh_tables.proofs.relative_runs.first_among.Goals as goal

pub returns-in-Some : goal.returns-in-Some
returns-in-Some c = (
  refl,
  first_looping_above c.args.table.now c.args.below c.args.targets.now c.targets.target-index _ c.in-Some.token c.requires.targets c.targets-test.true refl c.targets.invariant
      (rw c.in-Some.is at c.in_ok-token.ensures),
)

pub targets-preserved : goal.targets-preserved
targets-preserved c =
    none_loops_above_more c.args.table.now c.args.below c.args.targets.now c.targets.target-index _ refl c.targets.invariant (rw c.in_default.is at c.in_ok-token.ensures)

pub returns : goal.returns
returns c = none_loops_above_all c.args.table.now c.args.below c.args.targets.now c.targets.target-index c.requires.targets c.targets-test.false c.targets.invariant
