use Rattle.mh_engine.specs.code.SentenceOutcomes.{IsBeforeToken}
use Rattle.mh_engine.proofs.sentence.run.Given as goal

abbrev pub invariant-loop-place : goal.invariant-loop-place
invariant-loop-place l = IsBeforeToken l.table l.start l.sentence l.place l.at
