use Rattle.mh_pager.specs.code.StateTests.{HasCoreAndPasses}
use Rattle.mh_pager.proofs.AreCandidates.{NoneBefore}
use Rattle.mh_pager.proofs.finding.first_fitting.Given as goal

abbrev pub invariant-loop-candidate : goal.invariant-loop-candidate
invariant-loop-candidate g l = NoneBefore (HasCoreAndPasses l.fit l.kernel) l.kernels l.states l.candidate-index
