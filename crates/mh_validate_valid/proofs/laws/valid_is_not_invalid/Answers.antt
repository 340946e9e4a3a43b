use Rattle.mh_validate_valid.proofs.ValidFailsNone.{valid_not_invalid}
use Rattle.mh_validate_valid.proofs.laws.valid_is_not_invalid.Goals as goal

pub returns : goal.returns
returns c = λ v state reason i. valid_not_invalid c.args.grammar.now c.requires c.args.raw.now state reason v i
