use Rattle.std.proofs.Common.{refl}
use Rattle.mh_sets.proofs.WordBits.{set_bits, set_keeps_bound, or_fits, fresh_is}
use Rattle.mh_sets.proofs.bits.set_bit.Goals as goal

pub returns-clause-each : goal.returns-clause-each
returns-clause-each c = set_keeps_bound c.args.words.now c.args.a _ c.requires.within c.requires.each (or_fits c.args.words.now c.args.a c.requires.within c.requires.each)

pub returns-clause-bits : goal.returns-clause-bits
returns-clause-bits c = set_bits c.args.words.now c.args.a _ c.requires.within refl

pub returns-clause-fresh : goal.returns-clause-fresh
returns-clause-fresh c = fresh_is c.args.words.now c.args.a
