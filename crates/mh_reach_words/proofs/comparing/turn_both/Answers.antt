use Rattle.mh_reach_words.specs.code.Words.{words_of}
use Rattle.mh_reach_words.proofs.IsComparisonStep.{tokens_compared}
use Rattle.mh_reach_words.proofs.comparing.turn_both.Goals as goal

pub returns-in-Token-Token : goal.returns-in-Token-Token
returns-in-Token-Token c =
    rw (c.in-Token-Token.is-0, c.in-Token-Token.is-1)
    (tokens_compared (words_of c.args.entries.now) c.args.rests.now c.in-Token-Token.one c.in-Token-Token.two c.compare_tokens.result c.compare_tokens.ensures (rw (c.in-Token-Token.is-0, c.in-Token-Token.is-1) at c.requires.tops))
