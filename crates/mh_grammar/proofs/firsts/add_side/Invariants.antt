use Rattle.std.proofs.Common.{drop}
use Rattle.mh_grammar.proofs.FirstFlags.{SideSoFar}
use Rattle.mh_grammar.proofs.firsts.add_side.Given as goal

abbrev pub invariant-loop-symbol : goal.invariant-loop-symbol
invariant-loop-symbol l = SideSoFar l.nullable l.width l.initial.flags l.flags l.lhs l.symbols l.grown (drop l.symbol-index l.symbols)
