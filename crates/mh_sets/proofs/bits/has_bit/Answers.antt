use Rattle.mh_sets.proofs.WordBits.{has_token_by_shift}
use Rattle.mh_sets.proofs.bits.has_bit.Goals as goal

pub returns : goal.returns
returns c = has_token_by_shift c.args.words.now c.args.a
