use Rattle.std.proofs.Common.{◌-◌}
use Rattle.mh_grammar.proofs.EdgeOrder.{Between}
use Rattle.mh_grammar.proofs.edges.find_edge.Given as goal

abbrev pub invariant-loop-low : goal.invariant-loop-low
invariant-loop-low l = Between l.edges l.symbol l.low l.high

abbrev pub decreases-loop-low : goal.decreases-loop-low
decreases-loop-low l = l.high - l.low
