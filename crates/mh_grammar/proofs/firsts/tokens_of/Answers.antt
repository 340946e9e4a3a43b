use Rattle.std.proofs.Common.{arith}
use Rattle.mh_grammar.proofs.FirstFlags.{TokensSoFar-push, TokensSoFar-skip, flag_within}
use Rattle.mh_grammar.proofs.firsts.tokens_of.Goals as goal
use Rattle.mh_grammar.proofs.firsts.tokens_of.Goals.{then-flag+in_ok-push, else-flag}

pub loop-token-preserved : goal.loop-token-preserved
loop-token-preserved c = elim c.if-flag.branch [
  | then-flag+in_ok-push w ↦ rw (w.tokens-is, w.in_ok-push.ensures.items) (TokensSoFar-push _ _ _ c.loop-token.invariant w.if-flag.true)
  | else-flag w ↦ rw w.tokens-is (TokensSoFar-skip _ _ _ c.loop-token.invariant w.if-flag.false)
]

pub returns-clause-exact : goal.returns-clause-exact
returns-clause-exact c = λ a. (c.loop-token.invariant.sound a, λ e. c.loop-token.invariant.complete a (omega (arith, flag_within c.args.flags.now a e)) e)
