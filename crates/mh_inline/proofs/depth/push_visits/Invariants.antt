use Rattle.std.specs.List.{All}
use Rattle.mh_inline.specs.code.DepthFirst.{IsVisitBelow}
use Rattle.mh_inline.proofs.depth.push_visits.Given as goal

abbrev pub invariant-loop-number : goal.invariant-loop-number
invariant-loop-number l = All (IsVisitBelow l.count) l.stack.items
