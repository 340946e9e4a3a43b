use Rattle.std.proofs.Common.{ℕ, ◌<◌}
use Rattle.mh_pager.specs.code.ItemLists.{MeetsConditionAt}
use Rattle.mh_pager.proofs.compatible.fit_before.Given as goal

abbrev pub invariant-loop-i : goal.invariant-loop-i
invariant-loop-i g l = (k : ℕ) → k < l.i → MeetsConditionAt l.left l.right k l.j
