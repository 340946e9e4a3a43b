use Rattle.mh_top_claims.proofs.VerdictClaims.{conflict_free_if_unwarned}
use Rattle.mh_top_claims.proofs.laws.unwarned_is_conflict_free.Goals as goal

pub returns : goal.returns
returns c = conflict_free_if_unwarned
