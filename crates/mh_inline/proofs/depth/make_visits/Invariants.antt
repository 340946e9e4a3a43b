use Rattle.std.proofs.Common.{length}
use Rattle.mh_inline.specs.code.DepthFirst.{IsDepthSearch}
use Rattle.mh_inline.proofs.depth.make_visits.Given as goal

abbrev pub invariant-loop : goal.invariant-loop
invariant-loop l = IsDepthSearch (length l.expanded.instances) l.search
