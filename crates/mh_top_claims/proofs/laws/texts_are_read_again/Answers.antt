use Rattle.mh_top_claims.proofs.HasRoundTrips.{has_round_trips}
use Rattle.mh_top_claims.proofs.laws.texts_are_read_again.Goals as goal

pub returns : goal.returns
returns c = has_round_trips
