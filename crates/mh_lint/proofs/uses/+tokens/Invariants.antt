use Rattle.std.proofs.Common.{◌+◌, ◌*◌, length}
use Rattle.std.specs.List.{flat_map}
use Rattle.mh_lint_faults.specs.Terms.{heads as heads_of}
use Rattle.mh_lint_states.specs.code.Marks.{Marks}
use Rattle.mh_lint.proofs.Gains.{AnyOf}
use Rattle.mh_lint.proofs.UsedTokens.{HasToken}
use Rattle.mh_lint.proofs.uses.+tokens.Given as goal

abbrev pub invariant-mark_actuals-loop-actual : goal.invariant-mark_actuals-loop-actual
invariant-mark_actuals-loop-actual l = Marks (AnyOf HasToken l.actuals l.actual-index) l.fn.used l.used

abbrev pub decreases-mark_actual : goal.decreases-mark_actual
decreases-mark_actual l = 2 * length (heads_of l.actual.now)

abbrev pub decreases-mark_actuals : goal.decreases-mark_actuals
decreases-mark_actuals l = 2 * length (flat_map heads_of l.actuals.now) + 1
