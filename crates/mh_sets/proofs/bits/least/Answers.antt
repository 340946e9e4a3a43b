use Rattle.std.proofs.Common.{arith}
use Rattle.mh_sets.proofs.WordBits.{least_bit, no_bits}
use Rattle.mh_sets.proofs.bits.least.Goals as goal

pub returns-then-words-k-ne0-clause-some : goal.returns-then-words-k-ne0-clause-some
returns-then-words-k-ne0-clause-some c = least_bit c.args.words.now c.requires.each c.words.k (omega arith) c.words.invariant (λ e. omega arith)

pub returns-clause-empty : goal.returns-clause-empty
returns-clause-empty c = no_bits c.args.words.now c.requires.each (λ k l. c.words.invariant k (omega arith))
