use Rattle.std.proofs.Common.{◌≡◌}
use Rattle.mh_expected.specs.code.Trials.{AreTried}
use Rattle.mh_expected.proofs.trial.tokens_shifted.Given as goal

abbrev pub invariant-loop-token : goal.invariant-loop-token
invariant-loop-token l = AreTried l.table l.states l.shifted.items l.token × (l.stack.base ≡ l.states)
