use Rattle.mh_grammar.proofs.FirstFlags.{AddsNothing, KeepsSoundFlags}
use Rattle.mh_grammar.proofs.ProductionPasses.{PassSoFar}
use Rattle.mh_grammar.proofs.firsts.add_once.Given as goal

abbrev pub invariant-loop-place : goal.invariant-loop-place
invariant-loop-place l = record {
  pass : PassSoFar (AddsNothing l.nullable l.width) l.productions l.fn.flags l.flags l.grown 0;
  sound : KeepsSoundFlags l.productions l.nullable l.width l.fn.flags l.flags;
}

abbrev pub invariant-loop-production : goal.invariant-loop-production
invariant-loop-production l = record {
  pass : PassSoFar (AddsNothing l.nullable l.width) l.productions l.fn.flags l.flags l.grown l.production-index;
  sound : KeepsSoundFlags l.productions l.nullable l.width l.fn.flags l.flags;
}
