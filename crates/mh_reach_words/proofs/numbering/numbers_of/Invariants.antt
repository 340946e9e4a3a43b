use Rattle.mh_reach_words.proofs.IsNumberedUpTo.{NumberedSoFar}
use Rattle.mh_reach_words.proofs.numbering.numbers_of.Given as goal

abbrev pub invariant-loop-one : goal.invariant-loop-one
invariant-loop-one l = NumberedSoFar l.given l.made l.one-index l.numbers.items
