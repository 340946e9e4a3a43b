use Rattle.std.proofs.Common.{map, take}
use Rattle.mh_msgfile.specs.code.LineSteps.{AreNumbers}
use Rattle.mh_msgfile.proofs.lexicon.number_tokens.Given as goal

abbrev pub invariant-loop-number : goal.invariant-loop-number
invariant-loop-number l = AreNumbers (map (λ token. token.name) (take l.number l.tokens)) l.numbers.entries
