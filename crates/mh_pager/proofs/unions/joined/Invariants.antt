use Rattle.mh_pager.proofs.IsJoin.{JoinedSoFar}
use Rattle.mh_pager.proofs.unions.joined.Given as goal

abbrev pub invariant-loop-i : goal.invariant-loop-i
invariant-loop-i g l = JoinedSoFar l.ours l.theirs l.items.items l.i
