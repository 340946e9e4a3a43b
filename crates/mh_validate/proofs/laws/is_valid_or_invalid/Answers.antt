use Rattle.mh_validate.proofs.ValidOrInvalid.{valid_or_invalid}
use Rattle.mh_validate.proofs.laws.is_valid_or_invalid.Goals as goal

pub returns : goal.returns
returns c = valid_or_invalid
