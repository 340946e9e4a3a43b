use Rattle.std.proofs.Common.{◌+◌, ◌-◌, ◌*◌}
use Rattle.mh_run.proofs.Progress.{Progress}
use Rattle.mh_run.proofs.reductions.settle.Given as goal

abbrev pub invariant-reductions : goal.invariant-reductions
invariant-reductions g l = Progress g.F.RunObserver.following l.table l.look l.fn.stack.items l.stack.items l.fn.follower l.follower l.floor l.count

-- The measure: either `floor` becomes smaller, or one reduction fewer is left.
abbrev pub decreases-reductions : goal.decreases-reductions
decreases-reductions g l = 10001 * l.floor + (10000 - l.count)
