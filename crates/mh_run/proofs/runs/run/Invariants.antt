use Rattle.mh_run.proofs.RunProgress.{RunProgress}
use Rattle.mh_run.proofs.runs.run.Given as goal

abbrev pub invariant-loop-at : goal.invariant-loop-at
invariant-loop-at g l = RunProgress g.F.RunObserver.following l.table l.start l.sentence l.fn.follower l.stack.items l.at l.follower
