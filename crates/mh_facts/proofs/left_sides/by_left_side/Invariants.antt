use Rattle.mh_facts.specs.code.ByLeftSide.{IsByLeftSideBelow}
use Rattle.mh_facts.proofs.left_sides.by_left_side.Given as goal

abbrev pub invariant-loop-production : goal.invariant-loop-production
invariant-loop-production l = IsByLeftSideBelow l.table l.production l.left
