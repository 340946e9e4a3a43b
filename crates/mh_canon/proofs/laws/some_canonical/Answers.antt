use Rattle.mh_canon.proofs.SomeCanonical.{canonical_or_exceeds}
use Rattle.mh_canon.proofs.laws.some_canonical.Goals as goal

pub returns : goal.returns
returns c = canonical_or_exceeds
