use Rattle.std.proofs.Common.{◌≤◌}
use Rattle.mh_grammar.proofs.worklist.missing_in.Given as goal

abbrev pub invariant-loop-symbol : goal.invariant-loop-symbol
invariant-loop-symbol l = l.missing ≤ l.symbol-index
