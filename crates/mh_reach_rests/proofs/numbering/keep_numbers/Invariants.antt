use Rattle.mh_reach_rests.specs.code.RestNumbers.{KeepsNumbers}
use Rattle.mh_reach_rests.proofs.numbering.keep_numbers.Given as goal

abbrev pub invariant-loop-place : goal.invariant-loop-place
invariant-loop-place l = KeepsNumbers l.given l.numbers l.place l.fn.tokens.items l.tokens.items
