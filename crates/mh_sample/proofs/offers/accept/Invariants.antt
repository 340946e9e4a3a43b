use Rattle.std.proofs.Common.{◌≤◌}
use Rattle.mh_sample.specs.code.Offers.{load}
use Rattle.mh_sample.proofs.offers.accept.Given as goal

abbrev pub invariant-loop-user : goal.invariant-loop-user
invariant-loop-user l = load l.waiting ≤ load l.fn.waiting
