use Rattle.std.proofs.Common.{refl}
use Rattle.mh_sets.proofs.WordBits.{clear_bits}
use Rattle.mh_sets.proofs.bits.clear_bit.Goals as goal

pub returns-clause-bits : goal.returns-clause-bits
returns-clause-bits c = clear_bits c.args.words.now c.args.a _ c.requires.within refl
