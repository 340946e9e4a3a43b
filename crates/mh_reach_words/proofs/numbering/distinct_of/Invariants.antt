use Rattle.mh_reach_words.proofs.IsNumberedUpTo.{OnceSoFar}
use Rattle.mh_reach_words.proofs.numbering.distinct_of.Given as goal

abbrev pub invariant-loop-one : goal.invariant-loop-one
invariant-loop-one l = OnceSoFar l.made l.one-index l.distinct.keys
