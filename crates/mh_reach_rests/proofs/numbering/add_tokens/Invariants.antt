use Rattle.std.specs.Prelude.{◌≡◌, ◌++◌, map, take}
use Rattle.mh_reach_rests.specs.code.RestNumbers.{token_alone}
use Rattle.mh_reach_rests.proofs.numbering.add_tokens.Given as goal

abbrev pub invariant-loop-token : goal.invariant-loop-token
invariant-loop-token l = l.made.items ≡ l.fn.made.items ++ map token_alone (take l.token-index l.tokens)
