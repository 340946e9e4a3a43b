use Rattle.mh_grammar.proofs.ProductionPasses.{PassSoFar}
use Rattle.mh_items.proofs.AddsComplete.{Closes}
use Rattle.mh_items.proofs.empty_productions.mark_once.Given as goal

abbrev pub invariant-loop-place : goal.invariant-loop-place
invariant-loop-place l = PassSoFar Closes l.productions l.fn.marks l.marks l.changed 0

abbrev pub invariant-loop-production : goal.invariant-loop-production
invariant-loop-production l = PassSoFar Closes l.productions l.fn.marks l.marks l.changed l.production-index
