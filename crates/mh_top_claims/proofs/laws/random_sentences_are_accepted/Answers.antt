use Rattle.mh_top_claims.proofs.AcceptsRandom.{accepts_random}
use Rattle.mh_top_claims.proofs.laws.random_sentences_are_accepted.Goals as goal

pub returns : goal.returns
returns c = accepts_random
