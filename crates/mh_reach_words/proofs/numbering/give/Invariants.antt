use Rattle.mh_reach_words.specs.code.Numbering.{IsNumberedUpTo}
use Rattle.mh_reach_words.proofs.numbering.give.Given as goal

abbrev pub invariant-loop-place : goal.invariant-loop-place
invariant-loop-place l = IsNumberedUpTo l.entries l.ordered.group l.ordered.made.now l.place l.given
