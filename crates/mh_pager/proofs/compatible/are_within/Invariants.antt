use Rattle.mh_pager.specs.code.ItemLists.{AreLooksWithin}
use Rattle.mh_pager.proofs.AllPairs.{PairsBelow}
use Rattle.mh_pager.proofs.compatible.are_within.Given as goal

abbrev pub invariant-loop-i : goal.invariant-loop-i
invariant-loop-i g l = PairsBelow (λ x y. AreLooksWithin x.looks y.looks) l.left l.right l.i
