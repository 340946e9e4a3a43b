use Rattle.std.proofs.Common.{◌≡◌, []}
use Rattle.mh_run.proofs.RunProgress.{RunProgress}
use Rattle.mh_expected.specs.code.Trials.{null_observer}
use Rattle.mh_expected.proofs.sentence.states_after.Given as goal

abbrev pub invariant-loop-token : goal.invariant-loop-token
invariant-loop-token l = RunProgress null_observer l.table l.start l.sentence tt l.stack.stack l.token-index tt × (l.stack.base ≡ [])
