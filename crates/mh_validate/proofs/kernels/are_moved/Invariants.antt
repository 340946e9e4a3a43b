use Rattle.std.proofs.Common.{◌↔◌, drop}
use Rattle.std.specs.List.{AllByRecursion}
use Rattle.mh_validate.specs.code.LooksAndItems.{IsNonStartItem}
use Rattle.mh_validate.proofs.kernels.are_moved.Given as goal

abbrev pub invariant-loop-at : goal.invariant-loop-at
invariant-loop-at g l = AllByRecursion (IsNonStartItem l.grammar) (drop l.at l.items) ↔ AllByRecursion (IsNonStartItem l.grammar) l.items
