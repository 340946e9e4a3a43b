use Rattle.std.proofs.Common.{length}
use Rattle.mh_inline.specs.code.DepthFirst.{IsDepthSearch}
use Rattle.mh_inline.proofs.depth.close.Given as goal

abbrev pub invariant-loop-member : goal.invariant-loop-member
invariant-loop-member l = IsDepthSearch (length l.initial.search.ranks.items) l.search

abbrev pub decreases-loop-member : goal.decreases-loop-member
decreases-loop-member l = length l.search.open.items
