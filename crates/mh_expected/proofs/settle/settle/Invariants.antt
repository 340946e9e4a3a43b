use Rattle.std.proofs.Common.{◌≡◌, ◌+◌, ◌-◌, ◌*◌}
use Rattle.mh_run.proofs.Progress.{Progress}
use Rattle.mh_expected.specs.code.Trials.{null_observer}
use Rattle.mh_expected.proofs.settle.settle.Given as goal

abbrev pub invariant-reductions : goal.invariant-reductions
invariant-reductions l = Progress null_observer l.table l.look l.fn.stack.stack l.stack.stack tt tt l.floor l.count × (l.stack.base ≡ l.fn.stack.base)

-- Each reduction lowers `floor`, or leaves one reduction fewer above `floor`.
abbrev pub decreases-reductions : goal.decreases-reductions
decreases-reductions l = 10001 * l.floor + (10000 - l.count)
