use Rattle.std.proofs.Common.{ℕ, ◌<◌}
use Rattle.mh_pager.specs.code.ItemLists.{MeetsConditionBefore}
use Rattle.mh_pager.proofs.compatible.are_compatible.Given as goal

abbrev pub invariant-loop-j : goal.invariant-loop-j
invariant-loop-j g l = (k : ℕ) → k < l.j → MeetsConditionBefore l.left l.right k
