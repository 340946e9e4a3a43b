use Rattle.std.proofs.Common.{◌≡◌, length}
use Rattle.mh_msgfile.specs.Sentences.{pieces, tokens_of, vocabulary_in}
use Rattle.mh_msgfile.specs.code.LineSteps.{after_tokens}
use Rattle.mh_session.proofs.reading.put_tokens.Given as goal

abbrev pub invariant-loop-name : goal.invariant-loop-name
invariant-loop-name l = after_tokens l.fn.tokens.items (tokens_of (vocabulary_in l.lexicon) (pieces l.names)) ≡ after_tokens l.tokens.items (tokens_of (vocabulary_in l.lexicon) (pieces l.rest))

abbrev pub decreases-loop-name : goal.decreases-loop-name
decreases-loop-name l = length l.rest
