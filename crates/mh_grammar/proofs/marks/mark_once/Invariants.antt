use Rattle.mh_grammar.specs.Marked.{AreSound}
use Rattle.mh_grammar.proofs.LeastMarks.{Closes}
use Rattle.mh_grammar.proofs.ProductionPasses.{PassSoFar}
use Rattle.mh_grammar.proofs.marks.mark_once.Given as goal

abbrev pub invariant-loop-place : goal.invariant-loop-place
invariant-loop-place l = record {
  pass : PassSoFar (Closes l.tokens) l.productions l.fn.marks l.marks l.changed 0;
  sound : AreSound l.tokens l.productions l.fn.marks → AreSound l.tokens l.productions l.marks;
}

abbrev pub invariant-loop-production : goal.invariant-loop-production
invariant-loop-production l = record {
  pass : PassSoFar (Closes l.tokens) l.productions l.fn.marks l.marks l.changed l.production-index;
  sound : AreSound l.tokens l.productions l.fn.marks → AreSound l.tokens l.productions l.marks;
}
