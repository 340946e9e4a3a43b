use Rattle.mh_grammar.proofs.FirstFlags.{TokensSoFar}
use Rattle.mh_grammar.proofs.firsts.tokens_of.Given as goal

abbrev pub invariant-loop-token : goal.invariant-loop-token
invariant-loop-token l = TokensSoFar l.flags l.tokens.items l.token
