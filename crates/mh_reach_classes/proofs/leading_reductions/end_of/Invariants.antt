use Rattle.std.proofs.Common.{◌<◌, length}
use Rattle.mh_facts.specs.code.BestFirst.{IsPathEnd}
use Rattle.mh_reach_classes.proofs.leading_reductions.end_of.Given as goal

abbrev pub invariant-loop-place : goal.invariant-loop-place
invariant-loop-place l = IsPathEnd l.table l.from l.production l.place l.end × (l.end < length l.table.states)
