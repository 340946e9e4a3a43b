use Rattle.std.proofs.Common.{drop}
use Rattle.mh_items.proofs.IsStringFirst.{RestSoFar}
use Rattle.mh_items.proofs.links.rest_of.Given as goal

abbrev pub invariant-loop-symbol : goal.invariant-loop-symbol
invariant-loop-symbol g l = RestSoFar l.sets l.symbols l.tokens (drop l.symbol-index l.symbols)
